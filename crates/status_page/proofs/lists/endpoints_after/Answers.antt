use Rattle.std.proofs.Common.{◌≡◌, ◌∙◌, sym, ap, subst, refl, false, true, cond, arith, List, [], ◌∷◌, ◌++◌, length, take, ℕ, Box}
use Rattle.std.specs.BTreeMap.{insert_entry, values}
use Rattle.std.specs.Cmp.Lexicographic.{slice_cmp}
use Rattle.std.specs.Global.{Global}
use Rattle.std.specs.List.Sorted.{IsStrictlySortedBy}
use Rattle.std.specs.List.{fold}
use Rattle.std.specs.Ordering.{nat_cmp}
use Rattle.std.specs.Prelude.{nat_lt}
use Rattle.std.proofs.lemmas.Grind.{fold-append}
use Rattle.std.proofs.lemmas.List.Elements.{All-append, All-cons, All-nil, All-same, All-take, All-weaker}
use Rattle.zone_view.specs.declared.rows.EndpointRow.{EndpointRow}
use Rattle.status_page.specs.Lists.{IsEndpointEntry, identifiers_of, is_endpoint_after, with_endpoint}
use Rattle.status_page.proofs.Entries.{All-insert_entry, All-values, keys_of_values, same_lists}
use Rattle.status_page.proofs.Gathered.{first_entries, first_rows, more_rows}
use Rattle.status_page.proofs.Readings.{all_taken, one_taken}
use Rattle.status_page.proofs.lists.endpoints_after.Goals as goal

pub loop-row-preserved : goal.loop-row-preserved
loop-row-preserved g c =
    let P : List ℕ × Box EndpointRow Global → Type 0 = IsEndpointEntry c.args.after (g.Z.RunningZone.has_endpoint c.args.zone.now) in
    let Q : EndpointRow → Type 0 = λ row. (c.in-Some.row.identifier ≡ row.identifier)
    × (is_endpoint_after c.args.after row.identifier ≡ true) × g.Z.RunningZone.has_endpoint c.args.zone.now row in
    let is_after : is_endpoint_after c.args.after c.in-Some.row.identifier ≡ true =
    grind (arith, c.is_endpoint_after.ensures, c.if-not-is_endpoint_after.false) in
    let put = c.in_ok-is_more.ensures.kept in
    let before = c.loop-row.invariant.first in
    let told = before.0 in
    let entries = fold (with_endpoint c.args.after) [] told in
    let all : fold (with_endpoint c.args.after) [] (told ++ c.in-Some.row ∷ []) ≡ insert_entry (slice_cmp nat_cmp) entries c.in-Some.row.identifier c.in-Some.row =
    fold-append (with_endpoint c.args.after) [] told (c.in-Some.row ∷ [])
    ∙ ap (λ b. cond b (insert_entry (slice_cmp nat_cmp) entries c.in-Some.row.identifier c.in-Some.row) entries) is_after in
    let now = first_entries (slice_cmp nat_cmp) c.args.most c.loop-row.entries.entries c.in-Some.row.identifier c.in-Some.row
    c.keep.new.entries.entries c.loop-row.is_more c.in_ok-is_more.field-0 entries before.3 before.4 put in
    record {
      entries = All-same P c.keep.new.entries.entries _ put.2 (All-take P c.args.most _
          (All-insert_entry _ _ put.0 P c.loop-row.entries.entries same_lists c.loop-row.invariant.entries
          (subst Q (sym put.1) (refl, is_after, c.in-Some.ensures.row))));
      ordered = c.in_ok-is_more.ensures.ordered;
      few = c.in_ok-is_more.ensures.few;
      told = c.next_endpoint.ensures.told;
      room = omega arith;
      first = (
        told ++ c.in-Some.row ∷ [],
        All-append (g.Z.RunningZone.has_endpoint c.args.zone.now) told (c.in-Some.row ∷ []) before.1
            (All-cons (g.Z.RunningZone.has_endpoint c.args.zone.now) c.in-Some.row [] c.in-Some.ensures.row (All-nil _)),
        one_taken (g.Z.RunningZone.has_endpoints_below c.args.zone.now) c.loop-row.place c.loop-row.told.items
            c.next_endpoint.new.place c.next_endpoint.new.told.items told c.in-Some.row before.2 c.in-Some.ensures.next,
        now.0 ∙ ap (take c.args.most) (sym all),
        now.1 ∙ ap (λ es. nat_lt c.args.most (length es)) (sym all),
      );
    }

pub loop-row-preserved-then-not-is_endpoint_after : goal.loop-row-preserved-then-not-is_endpoint_after
loop-row-preserved-then-not-is_endpoint_after g c =
    let is_before : is_endpoint_after c.args.after c.in-Some.row.identifier ≡ false =
    grind (arith, c.is_endpoint_after.ensures, c.if-not-is_endpoint_after.true) in
    let before = c.loop-row.invariant.first in
    let told = before.0 in
    let entries = fold (with_endpoint c.args.after) [] told in
    let all : fold (with_endpoint c.args.after) [] (told ++ c.in-Some.row ∷ []) ≡ entries =
    fold-append (with_endpoint c.args.after) [] told (c.in-Some.row ∷ [])
    ∙ ap (λ b. cond b (insert_entry (slice_cmp nat_cmp) entries c.in-Some.row.identifier c.in-Some.row) entries) is_before in
    record {
      entries = c.loop-row.invariant.entries;
      ordered = c.loop-row.invariant.ordered;
      few = c.loop-row.invariant.few;
      told = c.next_endpoint.ensures.told;
      room = omega arith;
      first = (
        told ++ c.in-Some.row ∷ [],
        All-append (g.Z.RunningZone.has_endpoint c.args.zone.now) told (c.in-Some.row ∷ []) before.1
            (All-cons (g.Z.RunningZone.has_endpoint c.args.zone.now) c.in-Some.row [] c.in-Some.ensures.row (All-nil _)),
        one_taken (g.Z.RunningZone.has_endpoints_below c.args.zone.now) c.loop-row.place c.loop-row.told.items
            c.next_endpoint.new.place c.next_endpoint.new.told.items told c.in-Some.row before.2 c.in-Some.ensures.next,
        before.3 ∙ ap (take c.args.most) (sym all),
        before.4 ∙ ap (λ es. nat_lt c.args.most (length es)) (sym all),
      );
    }

pub returns-clause-rising : goal.returns-clause-rising
returns-clause-rising g c =
    let P : List ℕ × Box EndpointRow Global → Type 0 = IsEndpointEntry c.args.after (g.Z.RunningZone.has_endpoint c.args.zone.now) in
    let sorted : IsStrictlySortedBy (slice_cmp nat_cmp) (identifiers_of (values c.loop-row.entries)) =
    let S : List (List ℕ) → Type 0 = IsStrictlySortedBy (slice_cmp nat_cmp) in
    subst S (sym (keys_of_values (λ row. row.value.identifier) c.loop-row.entries.entries
    (All-weaker P (λ e. e.0 ≡ e.1.value.identifier) (λ e h. h.0) c.loop-row.entries.entries c.loop-row.invariant.entries)))
    c.loop-row.invariant.ordered in
    let S : List (Box EndpointRow Global) → Type 0 = λ rows. IsStrictlySortedBy (slice_cmp nat_cmp) (identifiers_of rows) in
    subst S (sym c.in_ok-values_of.ensures) sorted

pub returns-clause-after : goal.returns-clause-after
returns-clause-after g c =
    let P : List ℕ × Box EndpointRow Global → Type 0 = IsEndpointEntry c.args.after (g.Z.RunningZone.has_endpoint c.args.zone.now) in
    let Q : Box EndpointRow Global → Type 0 = λ row. is_endpoint_after c.args.after row.value.identifier ≡ true in
    All-same Q _ (values c.loop-row.entries) c.in_ok-values_of.ensures
    (All-values Q c.loop-row.entries.entries
    (All-weaker P (λ e. Q e.1) (λ e h. h.1) c.loop-row.entries.entries c.loop-row.invariant.entries))

pub returns-clause-told : goal.returns-clause-told
returns-clause-told g c =
    let P : List ℕ × Box EndpointRow Global → Type 0 = IsEndpointEntry c.args.after (g.Z.RunningZone.has_endpoint c.args.zone.now) in
    let Q : Box EndpointRow Global → Type 0 = λ row. g.Z.RunningZone.has_endpoint c.args.zone.now row.value in
    All-same Q _ (values c.loop-row.entries) c.in_ok-values_of.ensures
    (All-values Q c.loop-row.entries.entries
    (All-weaker P (λ e. Q e.1) (λ e h. h.2) c.loop-row.entries.entries c.loop-row.invariant.entries))

pub returns-clause-first : goal.returns-clause-first
returns-clause-first g c =
    let told = c.loop-row.invariant.first in (
      told.0,
      told.1,
      all_taken (g.Z.RunningZone.has_endpoints_below c.args.zone.now) c.loop-row.place c.loop-row.told.items
          c.next_endpoint.new.place c.next_endpoint.new.told.items told.0 told.2 c.in_default.ensures.next,
      first_rows c.args.most c.in_ok-values_of.field-0.items c.loop-row.entries.entries (fold (with_endpoint c.args.after) [] told.0)
          c.in_ok-values_of.ensures told.3,
      more_rows c.args.most c.loop-row.is_more (fold (with_endpoint c.args.after) [] told.0) told.4,
    )

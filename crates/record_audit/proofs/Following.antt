-- Octets that an audit follows, piece after piece.
use Rattle.std.proofs.Common.{◌≡◌, ◌<◌, ◌+◌, ◌++◌, ◌==◌, ◌⊎◌, ℕ, List, [], ◌∷◌, length, Bool}
use Rattle.std.proofs.Common.{true, false, inl, inr, refl, sym, ap, subst, ◌∙◌, arith, nat_lt}
use Rattle.std.proofs.Common.{append-nil, append_assoc, length-append, if◌then◌else◌}
use Rattle.std.proofs.lemmas.Bool.Decides.{nat_tests}
use Rattle.zone_events.specs.declared.change.Change.{Change}
use Rattle.zone_events.specs.declared.outcome.Outcome.{Outcome}
use Rattle.record_audit.specs.declared.fault.LineFault.{LineFault}
use Rattle.record_audit.specs.declared.fault.LineFault.TheVariants.{NotUnderstood}
use Rattle.record_audit.specs.Audits.{Follows, IsNext, Reading, StopsAt}
use Rattle.record_audit.specs.Lines.{begun_behind, lines_behind}
use Rattle.record_audit.specs.Records.{CannotGo, Goes, GoesThrough, Standing, fault_at, fault_taking}
use Rattle.record_audit.specs.Records.{most_octets, step_by}
use Rattle.record_audit.specs.inside.{HasNoEnd}

abbrev Steps : Type 0
Steps = List (Change × Outcome)

-- ---- lines

lines_append : (begun xs ys : List ℕ) → lines_behind begun (xs ++ ys)
    ≡ lines_behind begun xs ++ lines_behind (begun_behind begun xs) ys
lines_append begun [] ys = refl
lines_append begun (c ∷ xs) ys =
    elim (c == 10) as (λ (b : Bool).
    (if b then begun ∷ lines_behind [] (xs ++ ys) else lines_behind (begun ++ c ∷ []) (xs ++ ys))
    ≡ (if b then begun ∷ lines_behind [] xs else lines_behind (begun ++ c ∷ []) xs)
    ++ lines_behind (if b then begun_behind [] xs else begun_behind (begun ++ c ∷ []) xs) ys) [
      | true ↦ ap (λ (lines : List (List ℕ)). begun ∷ lines) (lines_append [] xs ys)
      | false ↦ lines_append (begun ++ c ∷ []) xs ys
    ]

begun_append : (begun xs ys : List ℕ) → begun_behind begun (xs ++ ys)
    ≡ begun_behind (begun_behind begun xs) ys
begun_append begun [] ys = refl
begun_append begun (c ∷ xs) ys =
    elim (c == 10) as (λ (b : Bool).
    (if b then begun_behind [] (xs ++ ys) else begun_behind (begun ++ c ∷ []) (xs ++ ys))
    ≡ begun_behind (if b then begun_behind [] xs else begun_behind (begun ++ c ∷ []) xs) ys) [
      | true ↦ begun_append [] xs ys
      | false ↦ begun_append (begun ++ c ∷ []) xs ys
    ]

lines_none : (begun front : List ℕ) → HasNoEnd front → lines_behind begun front ≡ []
lines_none begun [] none = refl
lines_none begun (c ∷ front) none = rw none.0 (lines_none (begun ++ c ∷ []) front none.1)

begun_none : (begun front : List ℕ) → HasNoEnd front → begun_behind begun front ≡ begun ++ front
begun_none begun [] none = sym (append-nil begun)
begun_none begun (c ∷ front) none =
    rw none.0 (begun_none (begun ++ c ∷ []) front none.1 ∙ append_assoc begun (c ∷ []) front)

-- what is too long stays so
abbrev Grown : List (List ℕ) → List ℕ → Type 0
Grown lines begun =
    ((line : List ℕ) × (others : List (List ℕ)) × (lines ≡ line ∷ others)
    × (most_octets < length line))
    ⊎ ((lines ≡ []) × (most_octets < length begun))

grown : (begun more : List ℕ) → most_octets < length begun
    → Grown (lines_behind begun more) (begun_behind begun more)
grown begun [] long = inr (refl, long)
grown begun (c ∷ more) long =
    elim (c == 10) as (λ (b : Bool).
    Grown (if b then begun ∷ lines_behind [] more else lines_behind (begun ++ c ∷ []) more)
    (if b then begun_behind [] more else begun_behind (begun ++ c ∷ []) more)) [
      | true ↦ inl (begun, lines_behind [] more, refl, long)
      | false ↦ grown (begun ++ c ∷ []) more
          (omega (arith, long, length-append begun (c ∷ [])))
    ]

-- ---- steps

pub through_append : (xs ys : List (List ℕ)) (s t : Steps) (a b c : Standing)
    → GoesThrough a xs s b → GoesThrough b ys t c → GoesThrough a (xs ++ ys) (s ++ t) c
through_append [] ys s t a b c first more =
    subst (λ (steps : Steps). GoesThrough a ys (steps ++ t) c) (sym first.1)
    (subst (λ (z : Standing). GoesThrough z ys t c) first.0 more)
through_append (line ∷ xs) ys s t a b c first more = (
  first.0,
  first.1,
  first.2 ++ t,
  through_append xs ys first.2 t first.0 b c first.3 more,
  ap (λ (steps : Steps). steps ++ t) first.4 ∙ append_assoc (step_by a line) first.2 t,
)

-- ---- what is followed

pub follows_none : (a : Reading) → Follows a [] a
follows_none a = record {
  steps = [];
  through = (refl, refl);
  begun = refl;
  lines = omega arith;
}

pub follows_more : (a b c : Reading) (xs ys : List ℕ) → Follows a xs b → Follows b ys c
    → Follows a (xs ++ ys) c
follows_more a b c xs ys first more =
    let lines_are : lines_behind a.begun (xs ++ ys)
    ≡ lines_behind a.begun xs ++ lines_behind b.begun ys =
    lines_append a.begun xs ys
    ∙ ap (λ (begun : List ℕ). lines_behind a.begun xs ++ lines_behind begun ys) (sym first.begun) in
    let count : length (lines_behind a.begun (xs ++ ys))
    ≡ length (lines_behind a.begun xs) + length (lines_behind b.begun ys) =
    ap (λ (lines : List (List ℕ)). length lines) lines_are
    ∙ length-append (lines_behind a.begun xs) (lines_behind b.begun ys) in
    record {
      steps = first.steps ++ more.steps;
      through = subst (λ (lines : List (List ℕ)).
          GoesThrough a.standing lines (first.steps ++ more.steps) c.standing) (sym lines_are)
          (through_append (lines_behind a.begun xs) (lines_behind b.begun ys) first.steps more.steps
          a.standing b.standing c.standing first.through more.through);
      begun = more.begun ∙ ap (λ (begun : List ℕ). begun_behind begun ys) first.begun
          ∙ sym (begun_append a.begun xs ys);
      lines = omega (arith, first.lines, more.lines, count);
    }

-- a line that ends
module _ (a : Reading) (front : List ℕ) (none : HasNoEnd front) where
  one_line : lines_behind a.begun (front ++ 10 ∷ []) ≡ (a.begun ++ front) ∷ []
  one_line =
      lines_append a.begun front (10 ∷ [])
      ∙ ap (λ (lines : List (List ℕ)). lines ++ begun_behind a.begun front ∷ [])
      (lines_none a.begun front none)
      ∙ ap (λ (line : List ℕ). line ∷ []) (begun_none a.begun front none)

  nothing_begun : begun_behind a.begun (front ++ 10 ∷ []) ≡ []
  nothing_begun = begun_append a.begun front (10 ∷ [])

  pub follows_line : (b : Reading) → Goes a.standing (a.begun ++ front) b.standing → b.begun ≡ []
      → b.lines ≡ a.lines + 1 → Follows a (front ++ 10 ∷ []) b
  follows_line b goes begun lines =
      let count : length (lines_behind a.begun (front ++ 10 ∷ [])) ≡ 1 =
      ap (λ (ls : List (List ℕ)). length ls) one_line in
      record {
        steps = step_by a.standing (a.begun ++ front);
        through = subst (λ (ls : List (List ℕ)).
            GoesThrough a.standing ls (step_by a.standing (a.begun ++ front)) b.standing)
            (sym one_line) (
              b.standing,
              goes,
              [],
              (refl, refl),
              sym (append-nil (step_by a.standing (a.begun ++ front))),
            );
        begun = begun ∙ sym nothing_begun;
        lines = omega (arith, lines, count);
      }

  pub follows_begun : (b : Reading) → b ≡ record a { begun = a.begun ++ front }
      → Follows a front b
  follows_begun b is =
      let count : length (lines_behind a.begun front) ≡ 0 =
      ap (λ (ls : List (List ℕ)). length ls) (lines_none a.begun front none) in
      let same : b.lines ≡ a.lines = ap (λ (r : Reading). r.lines) is in
      record {
        steps = [];
        through = subst (λ (ls : List (List ℕ)). GoesThrough a.standing ls [] b.standing)
            (sym (lines_none a.begun front none)) (ap (λ (r : Reading). r.standing) is, refl);
        begun = ap (λ (r : Reading). r.begun) is ∙ sym (begun_none a.begun front none);
        lines = omega (arith, same, count);
      }

-- ---- where it stops

long_fault : (s : Standing) (line : List ℕ) → most_octets < length line
    → fault_at s line ≡ NotUnderstood
long_fault s line long =
    let b : nat_lt most_octets (length line) ≡ true = grind (arith, nat_tests, long) in
    ap (λ (t : Bool). if t then NotUnderstood else fault_taking s.zone s.awaited s line) b

long_cannot : (s : Standing) (line : List ℕ) → most_octets < length line → CannotGo s line
long_cannot s line long = λ new goes. absurd (omega (arith, goes.0, long))

module _ (a b : Reading) (xs ys : List ℕ) (first : Follows a xs b) where
  next_more : (before : List (List ℕ)) (line : List ℕ) → IsNext before line b.begun ys
      → IsNext (lines_behind a.begun xs ++ before) line a.begun (xs ++ ys)
  next_more before line next =
      let lines_are : lines_behind a.begun (xs ++ ys)
      ≡ lines_behind a.begun xs ++ lines_behind b.begun ys =
      lines_append a.begun xs ys
      ∙ ap (λ (begun : List ℕ). lines_behind a.begun xs ++ lines_behind begun ys)
      (sym first.begun) in
      elim next [
        | inl h ↦ inl (
          h.0,
          lines_are ∙ ap (λ (ls : List (List ℕ)). lines_behind a.begun xs ++ ls) h.1
              ∙ sym (append_assoc (lines_behind a.begun xs) before (line ∷ h.0)),
        )
        | inr t ↦ inr (record {
          before_it = lines_are
              ∙ ap (λ (ls : List (List ℕ)). lines_behind a.begun xs ++ ls) t.before_it;
          is_begun = begun_append a.begun xs ys
              ∙ ap (λ (begun : List ℕ). begun_behind begun ys) (sym first.begun) ∙ t.is_begun;
          long = t.long;
        })
      ]

  pub stops_more : (number : ℕ) (fault : LineFault) → StopsAt b ys number fault
      → StopsAt a (xs ++ ys) number fault
  stops_more number fault stop =
      let count : length (lines_behind a.begun xs ++ stop.before)
      ≡ length (lines_behind a.begun xs) + length stop.before =
      length-append (lines_behind a.begun xs) stop.before in
      record {
        before = lines_behind a.begun xs ++ stop.before;
        steps = first.steps ++ stop.steps;
        mid = stop.mid;
        line = stop.line;
        through = through_append (lines_behind a.begun xs) stop.before first.steps stop.steps
            a.standing b.standing stop.mid first.through stop.through;
        place = next_more stop.before stop.line stop.place;
        count = omega (arith, first.lines, stop.count, count);
        cannot = stop.cannot;
        why = stop.why;
      }

module _ (a : Reading) (front : List ℕ) (none : HasNoEnd front) (fault : LineFault) where
  -- a line that ends
  pub stops_line : (behind : List ℕ) → CannotGo a.standing (a.begun ++ front)
      → fault ≡ fault_at a.standing (a.begun ++ front)
      → StopsAt a (front ++ 10 ∷ behind) (a.lines + 1) fault
  stops_line behind cannot why = record {
    before = [];
    steps = [];
    mid = a.standing;
    line = a.begun ++ front;
    through = (refl, refl);
    place = inl (
      lines_behind [] behind,
      lines_append a.begun front (10 ∷ behind)
          ∙ ap (λ (ls : List (List ℕ)).
          ls ++ begun_behind a.begun front ∷ lines_behind [] behind)
          (lines_none a.begun front none)
          ∙ ap (λ (line : List ℕ). line ∷ lines_behind [] behind) (begun_none a.begun front none),
    );
    count = omega arith;
    cannot = cannot;
    why = why;
  }

  -- one without an end
  pub stops_begun : most_octets < length (a.begun ++ front) → fault ≡ NotUnderstood
      → StopsAt a front (a.lines + 1) fault
  stops_begun long is = record {
    before = [];
    steps = [];
    mid = a.standing;
    line = a.begun ++ front;
    through = (refl, refl);
    place = inr (record {
      before_it = lines_none a.begun front none;
      is_begun = begun_none a.begun front none;
      long = long;
    });
    count = omega arith;
    cannot = long_cannot a.standing (a.begun ++ front) long;
    why = is ∙ sym (long_fault a.standing (a.begun ++ front) long);
  }

-- whatever follows
module _ (a : Reading) (xs more : List ℕ) (number : ℕ) (fault : LineFault)
    (stop : StopsAt a xs number fault) where
  stops_with : (line : List ℕ) → IsNext stop.before line a.begun (xs ++ more)
      → CannotGo stop.mid line → fault ≡ fault_at stop.mid line
      → StopsAt a (xs ++ more) number fault
  stops_with line place cannot why = record {
    before = stop.before;
    steps = stop.steps;
    mid = stop.mid;
    line = line;
    through = stop.through;
    place = place;
    count = stop.count;
    cannot = cannot;
    why = why;
  }

  stops_longer : (line : List ℕ) → IsNext stop.before line a.begun (xs ++ more)
      → most_octets < length stop.line → most_octets < length line
      → StopsAt a (xs ++ more) number fault
  stops_longer line place short long =
      stops_with line place (long_cannot stop.mid line long)
      (stop.why ∙ long_fault stop.mid stop.line short ∙ sym (long_fault stop.mid line long))

  pub stops_before : StopsAt a (xs ++ more) number fault
  stops_before = elim stop.place [
    | inl h ↦ stops_with stop.line (inl (
      h.0 ++ lines_behind (begun_behind a.begun xs) more,
      lines_append a.begun xs more
          ∙ ap (λ (ls : List (List ℕ)). ls ++ lines_behind (begun_behind a.begun xs) more) h.1
          ∙ append_assoc stop.before (stop.line ∷ h.0)
          (lines_behind (begun_behind a.begun xs) more),
    )) stop.cannot stop.why
    | inr t ↦
        let begun : begun_behind a.begun xs ≡ stop.line = t.is_begun in
        let lines_are : lines_behind a.begun (xs ++ more)
        ≡ stop.before ++ lines_behind stop.line more =
        lines_append a.begun xs more
        ∙ ap (λ (ls : List (List ℕ)). ls ++ lines_behind (begun_behind a.begun xs) more) t.before_it
        ∙ ap (λ (line : List ℕ). stop.before ++ lines_behind line more) begun in
        let begun_are : begun_behind a.begun (xs ++ more) ≡ begun_behind stop.line more =
        begun_append a.begun xs more
        ∙ ap (λ (line : List ℕ). begun_behind line more) begun in
        elim (grown stop.line more t.long) [
          | inl g ↦ stops_longer g.0 (inl (
            g.1,
            lines_are ∙ ap (λ (ls : List (List ℕ)). stop.before ++ ls) g.2,
          )) t.long g.3
          | inr g ↦ stops_longer (begun_behind stop.line more) (inr (record {
            before_it = lines_are ∙ ap (λ (ls : List (List ℕ)). stop.before ++ ls) g.0
                ∙ append-nil stop.before;
            is_begun = begun_are;
            long = g.1;
          })) t.long g.1
        ]
  ]

use Rattle.std.proofs.Common.{◌≡◌, ◌<◌, ◌∙◌, length, get_or, take, arith, rules, true, subst, List}
use Rattle.std.proofs.Common.{ℕ}
use Rattle.std.proofs.lemmas.Iterator.{YieldsList-from_chars}
use Rattle.std.proofs.lemmas.Iterator.Consumers.{YieldsList-turn, YieldsList-end}
use Rattle.std.proofs.lemmas.List.{take_all, length_push, length-set, get_or_read}
use Rattle.std.specs.List.{list_all}
use Rattle.std.specs.Option.{SomeIff}
use Rattle.std.specs.Str.{chars, IsUtf8}
use Rattle.ras_module.specs.Texts.{IsText}
use Rattle.value_texts.proofs.Names.{is_small, no_utf8, large_character, too_many, name_read}
use Rattle.value_texts.proofs.Names.{units_more}
use Rattle.value_texts.proofs.Names.{small_more}
use Rattle.value_texts.proofs.name.name_of.Goals as goal
use Rattle.value_texts.proofs.name.name_of.Goals.{then-number-gt65535-via-then-number-gt65535}
use goal.{then-number-gt65535-via-else-number-gt65535+then-count-eq-MOST}

pub returns-in_default : goal.returns-in_default
returns-in_default c = no_utf8 c.args.word.now c.in_default.ensures.cases.0

pub returns-then-number-gt65535 : goal.returns-then-number-gt65535
returns-then-number-gt65535 c =
    let utf8 : IsUtf8 c.args.word.now = c.in-Ok.ensures.cases.1 in
    let t = YieldsList-turn (YieldsList-from_chars c.args.word.now utf8 (search rules))
    c.loop-c.yielded _ c.loop-c.yielded_by _ _ c.in-Some.c c.in-Some.is c.next.ensures.steps in
    elim c.then-number-gt65535.branch [
      | then-number-gt65535-via-then-number-gt65535 w ↦
          large_character c.args.word.now (length c.loop-c.yielded) t.0
          (omega (
            arith,
            w.if-number-gt65535.true,
            c.from-number.ensures,
            get_or_read (chars c.args.word.now) (length c.loop-c.yielded) c.in-Some.c t.0 t.1 0,
          ))
      | then-number-gt65535-via-else-number-gt65535+then-count-eq-MOST w ↦
          too_many c.args.word.now (omega (arith, t.0, c.loop-c.invariant.count))
    ]

pub loop-c-preserved : goal.loop-c-preserved
loop-c-preserved c =
    let utf8 : IsUtf8 c.args.word.now = c.in-Ok.ensures.cases.1 in
    let t = YieldsList-turn (YieldsList-from_chars c.args.word.now utf8 (search rules))
    c.loop-c.yielded _ c.loop-c.yielded_by _ _ c.in-Some.c c.in-Some.is c.next.ensures.steps in
    let at : c.loop-c.count ≡ length c.loop-c.yielded = c.loop-c.invariant.count in
    let below : c.loop-c.count < length (chars c.args.word.now) = omega (arith, t.0, at) in
    let is : c.in-Some.c ≡ get_or (chars c.args.word.now) c.loop-c.count 0 =
    rw at (get_or_read (chars c.args.word.now) (length c.loop-c.yielded) c.in-Some.c t.0 t.1 0) in
    record {
      count = omega (arith, at, length_push c.loop-c.yielded c.in-Some.c);
      few = omega (arith, c.loop-c.invariant.few, c.if-count-eq-MOST.false);
      full = length-set c.loop-c.units c.loop-c.count c.from-number.result
          ∙ c.loop-c.invariant.full;
      units = units_more c.loop-c.units (chars c.args.word.now) c.loop-c.count c.from-number.result
          (omega (arith, c.loop-c.invariant.full, c.loop-c.invariant.few, c.if-count-eq-MOST.false))
          below (c.from-number.ensures ∙ is) c.loop-c.invariant.units;
      small = small_more (chars c.args.word.now) c.loop-c.count below (omega (
        arith,
        is,
        c.from-number.ensures,
        c.if-number-gt65535.false,
      )) c.loop-c.invariant.small;
    }

pub returns : goal.returns
returns c =
    let utf8 : IsUtf8 c.args.word.now = c.in-Ok.ensures.cases.1 in
    let t = YieldsList-end (YieldsList-from_chars c.args.word.now utf8 (search rules))
    c.loop-c.yielded _ c.loop-c.yielded_by _ _ c.in-None.is c.next.ensures.steps in
    let all : take c.loop-c.count (chars c.args.word.now) ≡ chars c.args.word.now =
    take_all c.loop-c.count (chars c.args.word.now)
    (omega (arith, t.1, c.loop-c.invariant.count)) in
    let is : take c.loop-c.count c.loop-c.units ≡ chars c.args.word.now = c.loop-c.invariant.units
    ∙ all in
    name_read c.args.word.now c.new.result utf8
    (subst (λ (cs : List ℕ). list_all is_small cs ≡ true) all c.loop-c.invariant.small)
    (subst (λ (cs : List ℕ). SomeIff c.new.result (IsText 128 cs) cs) is c.new.ensures)

use Rattle.std.proofs.Common.{◌≡◌, ◌+◌, ◌∙◌, subst, sym, ap, arith, rules, length, ◌<◌, Result}
use Rattle.std.proofs.lemmas.Bool.Decides.{nat_tests}
use Rattle.script.specs.Said.{Said, MayFollow}
use Rattle.script.specs.Scripts.{script_of, GivesUnlessMemory}
use Rattle.script.specs.declared.fault.ScriptFault.{ScriptFault}
use Rattle.script.specs.declared.read.Script.{Script}
use Rattle.script.proofs.Reading.{answer_from, readings, first_answer, last_answer, answer_more}
use Rattle.script.proofs.Reading.{unread_line, misplaced_line}
use Rattle.value_texts.proofs.Parting.{rest_shorter}
use Rattle.script.proofs.read.script_of.Goals as goal

pub loop-rest-init : goal.loop-rest-init
loop-rest-init c = record {
  few = omega (arith, c.requires);
  answer = subst (λ (said : Said). script_of c.args.text.now
      ≡ answer_from 1 said (readings c.args.text.now)) (sym c.in_ok-draft.ensures)
      (first_answer c.args.text.now c.requires);
}

pub returns-in_default : goal.returns-in_default
returns-in_default c =
    c.loop-rest.invariant.answer
    ∙ unread_line (c.loop-rest.number + 1) c.loop-rest.draft c.loop-rest.rest.now
    c.long_parted.result.0.now c.long_parted.result.1.now
    c.long_parted.ensures.front c.long_parted.ensures.rest
    (sym c.in_ok-line.ensures ∙ c.in_default.is)

pub returns-then-not-takes : goal.returns-then-not-takes
returns-then-not-takes c =
    let not_so : ¬ (MayFollow c.loop-rest.draft c.in-Some.line) =
    λ may. absurd (cc (c.takes.ensures.1 may, c.if-not-takes.true)) in
    c.loop-rest.invariant.answer
    ∙ misplaced_line (c.loop-rest.number + 1) c.loop-rest.draft c.loop-rest.rest.now
    c.long_parted.result.0.now c.long_parted.result.1.now c.in-Some.line
    c.long_parted.ensures.front c.long_parted.ensures.rest
    (sym c.in_ok-line.ensures ∙ c.in-Some.is) not_so

pub loop-rest-preserved : goal.loop-rest-preserved
loop-rest-preserved c =
    let may : MayFollow c.loop-rest.draft c.in-Some.line = c.takes.ensures.0 (search rules) in
    let some : 0 < length c.loop-rest.rest.now = grind (arith, nat_tests) in
    let shorter : length c.long_parted.result.1.now < length c.loop-rest.rest.now =
    rw c.long_parted.ensures.rest (rest_shorter 10 c.loop-rest.rest.now some) in
    record {
      few = omega (arith, c.loop-rest.invariant.few, shorter);
      answer = c.loop-rest.invariant.answer
          ∙ answer_more (c.loop-rest.number + 1) c.loop-rest.draft c.loop-rest.rest.now
          c.long_parted.result.0.now c.long_parted.result.1.now c.in-Some.line
          c.long_parted.ensures.front c.long_parted.ensures.rest
          (sym c.in_ok-line.ensures ∙ c.in-Some.is) may
          ∙ ap (λ (said : Said). answer_from (c.loop-rest.number + 1 + 1) said
          (readings c.long_parted.result.1.now)) (sym c.in_ok-add.ensures);
    }

pub returns : goal.returns
returns c =
    let none : length c.loop-rest.rest.now ≡ 0 = grind (arith, nat_tests) in
    subst (λ (answer : Result Script ScriptFault). GivesUnlessMemory answer c.into_script.result)
    (sym (c.loop-rest.invariant.answer
    ∙ last_answer (c.loop-rest.number + 1) c.loop-rest.draft c.loop-rest.rest.now none))
    c.into_script.ensures

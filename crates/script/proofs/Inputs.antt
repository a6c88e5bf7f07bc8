-- What is read of an input is what a script is read of.
use Rattle.std.proofs.Common.{◌≡◌, ℕ, ◌≤◌, Bool, if◌then◌else◌, true, false, Option, Some, None}
use Rattle.std.proofs.Common.{Result, Ok, Err, List, ◌+◌}
use Rattle.std.proofs.Common.{length, refl, subst, map, arith, nat_lt, ap, IsTrue, ◌↔◌}
use Rattle.std.proofs.lemmas.Bool.Decides.{nat_tests}
use Rattle.std.specs.Io.KnownBytes.{Consumes, IsAtEnd}
use Rattle.ras_module.specs.declared.address.Address.{Address}
use Rattle.script.specs.declared.read.TheConstants.Script as script_octets
use Rattle.script.specs.declared.event.ScriptEvent.{ScriptEvent}
use Rattle.zone_config.specs.Networks.{has_default}
use Rattle.script.specs.declared.fault.ScriptFault.{ScriptFault}
use Rattle.script.specs.declared.fault.ScriptFault.TheVariants.{TooLong, BadLine, NoZone}
use Rattle.script.specs.declared.fault.ScriptFault.TheVariants.{NoDefaultPool, Stream, Memory}
use Rattle.zone_config.specs.declared.key.Key.{Key}
use Rattle.script.specs.declared.read.Script.{Script}
use Rattle.script.specs.Pools.{PoolEntry, networks_of}
use Rattle.script.specs.Said.{Said}
use Rattle.script.specs.Words.{lines_of}
use Rattle.script.specs.Lines.{line_of}
use Rattle.script.specs.Scripts.{script_from, script_with, script_unless, in_place, said_by}
use Rattle.script.specs.Scripts.{bad_line}
use Rattle.script.specs.Scripts.{script_of, parts_of}
use Rattle.script.specs.Scripts.{GivesUnlessStopped, GivesUnlessMemory}
use Rattle.script.specs.Reads.{ConsumesAtMost, ConsumesExactly, IsInputFault, IsAtEndIfRead}
use Rattle.script.specs.Reads.{ReadsScript}
use Rattle.script.specs.Streams.{InputState}

too_long : (text : List ℕ) → length text ≡ script_octets.MOST + 1 → script_of text ≡ Err TooLong
unfolding script_of
too_long text e =
    let large : nat_lt script_octets.MOST (length text) ≡ true = grind (arith, nat_tests) in
    rw large refl

never_if : (is_default : Bool) (script : Script)
    → (if is_default then Ok script else Err NoDefaultPool) ≡ Err TooLong → ⊥
never_if true script e = absurd (cc e)
never_if false script e = absurd (cc e)

never_from : (place : Option (List ℕ × Address)) (settings : List (Key × ℕ))
    (pools : List PoolEntry) (events : List ScriptEvent)
    → script_from place settings pools events ≡ Err TooLong → ⊥
never_from None settings pools events e = absurd (cc e)
never_from (Some zone) settings pools events e =
    never_if (has_default (networks_of pools))
    (script_with (parts_of zone (networks_of pools) settings) pools events) e

never_long : (bad : Option ℕ) (said : Said) → script_unless bad said ≡ Err TooLong → ⊥
never_long (Some bad) said e = absurd (cc e)
never_long None said e = never_from said.zone said.settings said.pools said.events e

not_long : (text : List ℕ) → length text ≤ script_octets.MOST → script_of text ≡ Err TooLong → ⊥
unfolding script_of
not_long text few e =
    let small : nat_lt script_octets.MOST (length text) ≡ false = grind (arith, nat_tests) in
    let lines = in_place 0 (map line_of (lines_of text)) in
    never_long (bad_line lines) (said_by lines) (rw small at e)

ends : (answer : Result Script ScriptFault) (left : Option (List ℕ)) → IsAtEnd left
    → IsAtEndIfRead answer left
ends (Ok script) left e = e
ends (Err TooLong) left e = tt
ends (Err (BadLine line)) left e = e
ends (Err NoZone) left e = e
ends (Err NoDefaultPool) left e = e
ends (Err Stream) left e = tt
ends (Err Memory) left e = tt

unless_stopped : (answer result : Result Script ScriptFault) → GivesUnlessMemory answer result
    → GivesUnlessStopped answer result
unless_stopped answer (Ok script) h = h
unless_stopped answer (Err TooLong) h = h
unless_stopped answer (Err (BadLine line)) h = h
unless_stopped answer (Err NoZone) h = h
unless_stopped answer (Err NoDefaultPool) h = h
unless_stopped answer (Err Stream) h = tt
unless_stopped answer (Err Memory) h = tt

no_stream : (answer result : Result Script ScriptFault) → GivesUnlessMemory answer result
    → result ≡ Err Stream → ⊥
no_stream answer result h e =
    subst (λ (r : Result Script ScriptFault). GivesUnlessMemory answer r) e h

-- what a fault of reading says of the stream, the result with this fault says, too
of_fault : (fault : ScriptFault) (failed : Bool) → ((fault ≡ Stream) ↔ IsTrue failed)
    → (let answer : Result Script ScriptFault = Err fault in answer ≡ Err Stream) ↔ IsTrue failed
of_fault fault failed h = (λ e. h.0 (cc e), λ t. ap Err (h.1 t))

pub whole_answer : (old new : InputState) (text : List ℕ) (answer : Result Script ScriptFault)
    → Consumes old.left new.left text → IsAtEnd new.left → new.failed ≡ false
    → length text ≤ script_octets.MOST → GivesUnlessMemory (script_of text) answer
    → ReadsScript old new answer
whole_answer old new text answer taken end sound few meaning = record {
  text = text;
  taken = taken;
  few = omega (arith, few);
  meaning = unless_stopped (script_of text) answer meaning;
  long = λ e. absurd (not_long text few
      (subst (λ (a : Result Script ScriptFault). GivesUnlessMemory (script_of text) a) e meaning));
  end = ends answer new.left end;
  stream = (λ e. absurd (no_stream (script_of text) answer meaning e), λ t. absurd (cc (t, sound)));
}

pub fault_answer : (old new : InputState) (fault : ScriptFault) → IsInputFault fault
    → (fault ≡ TooLong → ConsumesExactly (script_octets.MOST + 1) old.left new.left)
    → ConsumesAtMost (script_octets.MOST + 1) old.left new.left
    → ((fault ≡ Stream) ↔ IsTrue new.failed) → ReadsScript old new (Err fault)
fault_answer old new TooLong kind long most stream =
    let exact = long refl in record {
      text = exact.octets;
      taken = exact.taken;
      few = omega (arith, exact.exact);
      meaning = too_long exact.octets exact.exact;
      long = λ e. exact.exact;
      end = tt;
      stream = of_fault TooLong new.failed stream;
    }
fault_answer old new (BadLine line) kind long most stream = absurd kind
fault_answer old new NoZone kind long most stream = absurd kind
fault_answer old new NoDefaultPool kind long most stream = absurd kind
fault_answer old new Stream kind long most stream = record {
  text = most.octets;
  taken = most.taken;
  few = most.few;
  meaning = tt;
  long = λ e. absurd (cc e);
  end = tt;
  stream = of_fault Stream new.failed stream;
}
fault_answer old new Memory kind long most stream = record {
  text = most.octets;
  taken = most.taken;
  few = most.few;
  meaning = tt;
  long = λ e. absurd (cc e);
  end = tt;
  stream = of_fault Memory new.failed stream;
}

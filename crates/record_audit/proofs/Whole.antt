-- The audit of a whole record.
use Rattle.std.proofs.Common.{◌≡◌, ◌<◌, ◌≤◌, ◌+◌, ◌++◌, ◌||◌, ℕ, List, [], length, Option, Some}
use Rattle.std.proofs.Common.{None, IfSome, is_some, Err, sym, ap, subst, ◌∙◌, arith, nat_lt}
use Rattle.std.proofs.Common.{length-append}
use Rattle.std.proofs.KnownBytes.{Consumes-trans}
use Rattle.std.specs.Io.KnownBytes.{Consumes}
use Rattle.record_audit.specs.declared.fault.AuditFault.{AuditFault}
use Rattle.record_audit.specs.declared.fault.AuditFault.TheVariants.{Line, TooLong, Stream}
use Rattle.record_audit.specs.declared.whole_record.Audited.{Audited}
use Rattle.record_audit.specs.Audits.{Follows, IsAuditOf, IsAudited, IsStopped, Reading}
use Rattle.record_audit.specs.Audits.{first_reading}
use Rattle.record_audit.specs.Lines.{lines_behind}
use Rattle.record_audit.specs.Records.{most_octets, steps_of}
use Rattle.record_audit.specs.inside.{IsReadTo}
use Rattle.record_audit.proofs.Following.{follows_more, stops_before, stops_more}
use Rattle.record_audit.proofs.OneRun.{no_record, steps_counted}
use Rattle.record_audit.proofs.Runs.{recorded_run}

-- what holds of octets, whatever follows, holds of all that an input has if it gave these
of_front : (a b : Option (List ℕ)) (octets : List ℕ) (P : List ℕ → Type 0)
    → Consumes a b octets → ((more : List ℕ) → P (octets ++ more)) → IfSome a P
of_front None b octets P taken h = tt
of_front (Some xs) None octets P taken h = absurd taken
of_front (Some xs) (Some ys) octets P taken h = subst P (sym taken) (h ys)

stopped_in : (a : Reading) (text piece more : List ℕ) (fault : AuditFault)
    → Follows first_reading text a → IsStopped a piece fault
    → IsAuditOf ((text ++ piece) ++ more) (Err fault)
stopped_in a text piece more (Line number fault) first stop =
    λ other.
    let at = stops_before first_reading (text ++ piece) more number fault
    (stops_more first_reading a text piece first number fault (stop other)) in
    (at, no_record ((text ++ piece) ++ more) number fault at)
stopped_in a text piece more TooLong first stop = absurd stop
stopped_in a text piece more Stream first stop = absurd stop

whole_audit : (octets : List ℕ) (reading : Reading) (audited : Audited)
    → Follows first_reading octets reading → length reading.begun ≤ most_octets
    → audited.steps ≡ steps_of reading.standing.zone → audited.lines ≡ reading.lines
    → audited.is_cut_off
    ≡ (nat_lt 0 (length reading.begun) || is_some reading.standing.awaited)
    → IsAudited octets audited
whole_audit octets reading audited follows few steps lines cut =
    let run = recorded_run (lines_behind [] octets) follows.steps reading.standing
    follows.through in
    record {
      steps = follows.steps;
      standing = reading.standing;
      is_record = record {
        through = follows.through;
        few = subst (λ (line : List ℕ). length line ≤ most_octets) follows.begun few;
      };
      is_run = run;
      count = steps ∙ steps_counted follows.steps reading.standing.zone run;
      lines = omega (arith, lines, follows.lines);
      cut = cut ∙ ap (λ (line : List ℕ). nat_lt 0 (length line) || is_some reading.standing.awaited)
          follows.begun;
    }

pub audited_input : (left : Option (List ℕ)) (reading : Reading) (audited : Audited)
    → IfSome left (λ octets. Follows first_reading octets reading)
    → length reading.begun ≤ most_octets
    → audited.steps ≡ steps_of reading.standing.zone → audited.lines ≡ reading.lines
    → audited.is_cut_off
    ≡ (nat_lt 0 (length reading.begun) || is_some reading.standing.awaited)
    → IfSome left (λ octets. IsAudited octets audited)
audited_input None reading audited follows few steps lines cut = tt
audited_input (Some octets) reading audited follows few steps lines cut =
    whole_audit octets reading audited follows few steps lines cut

-- ---- piece after piece

pub stopped_input : (old mid new : Option (List ℕ)) (pieces : ℕ) (a : Reading) (piece : List ℕ)
    (fault : AuditFault) → IsReadTo old mid pieces a → Consumes mid new piece
    → IsStopped a piece fault → IfSome old (λ octets. IsAuditOf octets (Err fault))
stopped_input old mid new pieces a piece fault read taken stop =
    of_front old new (read.text ++ piece) (λ octets. IsAuditOf octets (Err fault))
    (Consumes-trans old mid new read.text piece read.taken taken)
    (λ more. stopped_in a read.text piece more fault read.follows stop)

pub more_read : (old mid new : Option (List ℕ)) (pieces : ℕ) (a b : Reading) (piece : List ℕ)
    → IsReadTo old mid pieces a → Consumes mid new piece → Follows a piece b
    → length b.begun ≤ most_octets → 0 < length piece → length piece ≤ 4096
    → b.lines ≤ a.lines + length piece → IsReadTo old new (pieces + 1) b
more_read old mid new pieces a b piece read taken follows few some most lines =
    let all : length (read.text ++ piece) ≡ length read.text + length piece =
    length-append read.text piece in
    record {
      text = read.text ++ piece;
      taken = Consumes-trans old mid new read.text piece read.taken taken;
      follows = follows_more first_reading a b read.text piece read.follows follows;
      few = few;
      octets = omega (arith, read.octets, some, all);
      lines = omega (arith, read.lines, lines, most);
    }

-- A record that was begun stays so when it is flushed.
use Rattle.std.proofs.Common.{◌≡◌, ◌∙◌, ℕ, Bool, true, false, List, ap, arith, subst, sym}
use Rattle.std.specs.Prelude.{Option, Some, None, length, nat_lt}
use Rattle.std.specs.Io.KnownBytes.{Appends, Keeps}
use Rattle.recording.specs.Records.{BeginsAt, IsBegun, last_line}
use Rattle.recording.specs.Standings.{Standing}
use Rattle.recording.specs.Zones.{ZoneParts, zone_lines}
use Rattle.recording.specs.declared.writer.End.TheVariants.{Full}

appends_kept : (before then now : Option (List ℕ)) (text : List ℕ) → Keeps then now
    → Appends before then text → Appends before now text
appends_kept None then now text keeps appends = tt
appends_kept (Some xs) None now text keeps appends = absurd appends
appends_kept (Some xs) (Some ys) None text keeps appends = absurd keeps
appends_kept (Some xs) (Some ys) (Some zs) text keeps appends = keeps ∙ appends

-- nothing but the output has changed
record OutputAlone (old new : Standing) : Type 0 where
  steps : new.steps ≡ old.steps
  octets : new.octets ≡ old.octets
  most : new.most ≡ old.most
  is_open : new.is_open ≡ old.is_open
  text : Keeps old.output.contents new.output.contents

begins_kept : (is_full : Bool) (before : Option (List ℕ)) (zone : ZoneParts) (old new : Standing)
    → OutputAlone old new → BeginsAt is_full before zone old → BeginsAt is_full before zone new
begins_kept true before zone old new alone begins = record {
  text = appends_kept before old.output.contents new.output.contents _ alone.text
      (subst (λ most. Appends before old.output.contents (last_line Full 0 most)) (sym alone.most)
      begins.text);
  steps = alone.steps ∙ begins.steps;
}
begins_kept false before zone old new alone begins = record {
  text = appends_kept before old.output.contents new.output.contents _ alone.text begins.text;
  count = alone.steps ∙ begins.count;
  octets = alone.octets ∙ begins.octets;
  bound = omega (arith, alone.octets, alone.most, begins.bound);
}

-- so it is behind a flush that went well
alone : (old new : Standing) → new ≡ record old { output = new.output; is_open = new.is_open }
    → new.is_open ≡ old.is_open → Keeps old.output.contents new.output.contents
    → OutputAlone old new
alone old new same stays text = record {
  steps = ap (λ (s : Standing). s.steps) same;
  octets = ap (λ (s : Standing). s.octets) same;
  most = ap (λ (s : Standing). s.most) same;
  is_open = stays;
  text = text;
}

pub begun_kept : (before : Option (List ℕ)) (zone : ZoneParts) (most : ℕ) (old new : Standing)
    → new ≡ record old { output = new.output; is_open = new.is_open }
    → new.is_open ≡ old.is_open → Keeps old.output.contents new.output.contents
    → IsBegun before zone most old → IsBegun before zone most new
begun_kept before zone most old new same stays text begun =
    let flushed = alone old new same stays text in record {
      bound = flushed.most ∙ begun.bound;
      is_open = flushed.is_open ∙ begun.is_open;
      text = begins_kept (nat_lt most (length (zone_lines zone))) before zone old new flushed
          begun.text;
    }

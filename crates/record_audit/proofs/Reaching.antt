-- Octets that are read up to a rest.
use Rattle.std.proofs.Common.{◌≡◌, ◌<◌, ◌+◌, ◌++◌, ℕ, List, [], ◌∷◌, length, refl, sym, ap, subst}
use Rattle.std.proofs.Common.{◌∙◌, append_assoc}
use Rattle.record_audit.specs.declared.fault.LineFault.{LineFault}
use Rattle.record_audit.specs.declared.fault.LineFault.TheVariants.{NotUnderstood}
use Rattle.record_audit.specs.Audits.{Follows, Reading, StopsAt}
use Rattle.record_audit.specs.Records.{CannotGo, Goes, fault_at, most_octets}
use Rattle.record_audit.specs.inside.{HasNoEnd, IsParted, Reached}
use Rattle.record_audit.proofs.Following.{follows_begun, follows_line, follows_more, follows_none}
use Rattle.record_audit.proofs.Following.{stops_begun, stops_line, stops_more}

pub reached_none : (old : Reading) (octets : List ℕ) → Reached old octets octets old
reached_none old octets = record { seen = []; whole = refl; follows = follows_none old }

module _ (old a : Reading) (octets rest : List ℕ) (reached : Reached old octets rest a) where
  follow_on : (b : Reading) → Follows a rest b → Follows old octets b
  follow_on b more =
      subst (λ (all : List ℕ). Follows old all b) (sym reached.whole)
      (follows_more old a b reached.seen rest reached.follows more)

  stop_on : (number : ℕ) (fault : LineFault) → StopsAt a rest number fault
      → StopsAt old octets number fault
  stop_on number fault stop =
      subst (λ (all : List ℕ). StopsAt old all number fault) (sym reached.whole)
      (stops_more old a reached.seen rest reached.follows number fault stop)

  -- behind a line that ends
  module _ (front behind : List ℕ) (parts : IsParted rest front behind) where
    pub reached_line : (b : Reading) → Goes a.standing (a.begun ++ front) b.standing
        → b.begun ≡ [] → b.lines ≡ a.lines + 1 → Reached old octets behind b
    reached_line b goes begun lines = record {
      seen = reached.seen ++ (front ++ 10 ∷ []);
      whole = reached.whole ∙ ap (λ (all : List ℕ). reached.seen ++ all) parts.whole
          ∙ ap (λ (all : List ℕ). reached.seen ++ all)
          (sym (append_assoc front (10 ∷ []) behind))
          ∙ sym (append_assoc reached.seen (front ++ 10 ∷ []) behind);
      follows = follows_more old a b reached.seen (front ++ 10 ∷ []) reached.follows
          (follows_line a front parts.first b goes begun lines);
    }

    pub stopped_line : (number : ℕ) (fault : LineFault) → number ≡ a.lines + 1
        → CannotGo a.standing (a.begun ++ front)
        → fault ≡ fault_at a.standing (a.begun ++ front)
        → StopsAt old octets number fault
    stopped_line number fault next cannot why =
        subst (λ (n : ℕ). StopsAt old octets n fault) (sym next)
        (stop_on (a.lines + 1) fault
        (subst (λ (all : List ℕ). StopsAt a all (a.lines + 1) fault) (sym parts.whole)
        (stops_line a front parts.first fault behind cannot why)))

  -- at the end
  pub reached_end : (b : Reading) → HasNoEnd rest → b ≡ record a { begun = a.begun ++ rest }
      → Follows old octets b
  reached_end b none is = follow_on b (follows_begun a rest none b is)

  pub stopped_end : (number : ℕ) (fault : LineFault) → number ≡ a.lines + 1 → HasNoEnd rest
      → most_octets < length (a.begun ++ rest) → fault ≡ NotUnderstood
      → StopsAt old octets number fault
  stopped_end number fault next none long is =
      subst (λ (n : ℕ). StopsAt old octets n fault) (sym next)
      (stop_on (a.lines + 1) fault (stops_begun a rest none fault long is))

-- Plans of requests.
use Rattle.std.proofs.Common.{Bor, ◌≡◌, ℕ, false, List, sym, ◌∙◌}
use Rattle.std.proofs.Common.{ap, subst, None, Some, []}
use Rattle.std.specs.Prelude.{IfSome, IsSome, Option, if◌then◌else◌}
use Rattle.std.specs.Option.{IsSomeAnd, option_copied, unwrap_or}
use Rattle.std.specs.FinMap as fin
use Rattle.keyed.specs.Maps.{update}
use Rattle.keyed.proofs.Decide.{some_none}
use Rattle.ras_module.specs.declared.address.Address.{Address}
use Rattle.ras_module.specs.declared.reply.Reply.TheVariants.{Rcf}
use Rattle.ras_module.specs.declared.request.Request.TheVariants.{Rrq}
use Rattle.ras_module.specs.declared.reason.RegistrationRejectReason.TheVariants as reject
use reject.{FullRegistrationRequired}
use Rattle.ras_module.specs.declared.request.RegistrationRequest.{RegistrationRequest}
use Rattle.registrations.specs.declared.registration.Registration.{Registration}
use Rattle.registrations.specs.Registry.{IsConsistent, at_address, with_deadline}
use Rattle.registrations.proofs.Consistent.{IsAt-found}
use Rattle.zone_tables.specs.Tables.{Tables, with_live}
use Rattle.ras_requests.specs.Rrq.{keep_alive, named, has_moved, confirmation, deadline}
use Rattle.ras_requests.specs.Rrq.{granted, rejection}
use Rattle.ras_requests.specs.Urq.{leaving}
use Rattle.ras_requests.specs.declared.plan.GrantedTime.{GrantedTime}
use Rattle.ras_requests.specs.Planned.{Renews, Settles, renewal_of}
use Rattle.ras_requests.specs.Plans.{Settled}
use Rattle.zone_tables.proofs.Addressed.{found_at}
use Rattle.zone_tables.proofs.Answered.{is_there}

-- a registration is kept alive
Settles-renewal : (z : Tables) (now : ℕ) (q : RegistrationRequest) (id : List ℕ)
    (r : Registration) (g : GrantedTime) → IsConsistent z.live
    → q.endpoint ≡ Some id → fin.get z.live id ≡ Some r → has_moved r q.ras ≡ false
    → g.seq ≡ q.seq → g.granted ≡ granted z q.time_to_live → g.deadline ≡ deadline z now q
    → Settles z now (Rrq q) (keep_alive z now q (named z q.endpoint)) (renewal_of z g r)
Settles-renewal z now q id r g sound names there stays seq_is granted_is until_is =
    let here : unwrap_or q.endpoint [] ≡ r.identifier = ap (λ w. unwrap_or w []) names
    ∙ sym (sound.own id r there) in
    record {
      possible = (
        subst (λ w. IsSomeAnd w (λ i. IsSome (fin.get z.live i))) (sym names)
            (is_there (fin.get z.live id) r there),
        tt,
      );
      is = ap (keep_alive z now q) (ap (named z) names ∙ there)
          ∙ ap (λ b. if b then rejection z q FullRegistrationRequired else Settled (record {
            reply = confirmation z q r.call_signal r.aliases r.identifier;
            tables = with_live z (update z.live r.identifier
                (with_deadline (deadline z now q)));
          })) stays
          ∙ (λ i. Settled (record {
            reply = Rcf (record {
              seq = sym seq_is i;
              call_signal = r.call_signal;
              aliases = r.aliases;
              gatekeeper = z.config.identifier;
              endpoint = r.identifier;
              granted = sym granted_is i;
            });
            tables = with_live z (update z.live (sym here i) (with_deadline (sym until_is i)));
          }));
    }

pub Renews-known : (z : Tables) (now : ℕ) (q : RegistrationRequest) (id : List ℕ)
    (r : Registration) (g : GrantedTime) → IsConsistent z.live
    → q.endpoint ≡ Some id → fin.get z.live id ≡ Some r → has_moved r q.ras ≡ false
    → g.seq ≡ q.seq → g.granted ≡ granted z q.time_to_live → g.deadline ≡ deadline z now q
    → Renews z now (Rrq q) (keep_alive z now q (named z q.endpoint)) g
Renews-known z now q id r g sound names there stays seq_is granted_is until_is = record {
  id = id;
  registration = r;
  names = names;
  registered = there;
  settles = Settles-renewal z now q id r g sound names there stays seq_is granted_is until_is;
}

-- what holds of a registration that is found holds of the one that is lent
pub some_lent : (w : Option (Bor Registration)) (v : Option Registration)
    (P : Registration → Type 0) → option_copied w ≡ v → ((r : Registration) → v ≡ Some r → P r)
    → IfSome w (λ r. P r.now)
some_lent None v P is so = tt
some_lent (Some r) v P is so = so r.now (sym is)

-- who unregisters is found by its address
pub leaving_at : (z : Tables) → IsConsistent z.live → (endpoint : Option (List ℕ))
    (call_signal : Option Address) (r : Registration)
    → leaving z endpoint call_signal ≡ Some r → at_address z.live r.call_signal ≡ Some r
leaving_at z sound (Some id) call_signal r found = found_at z.live sound id r found
leaving_at z sound None (Some address) r found =
    ap (at_address z.live) (IsAt-found z.live sound address r found).address_is ∙ found
leaving_at z sound None None r found = some_none (sym found)

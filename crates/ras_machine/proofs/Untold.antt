-- The replies to a request for units tell no identifier, and to hear an endpoint changes no
-- setting.
use Rattle.std.proofs.Common.{◌≡◌, ℕ, Bool, true, false, List, None, Some, refl}
use Rattle.std.specs.Prelude.{Option}
use Rattle.pools.specs.declared.interface.Lend.{Lend}
use Rattle.kept_replies.specs.Told.{identifier_in}
use Rattle.zone_tables.specs.Pools.{grant_of}
use Rattle.zone_tables.specs.Tables.{Tables}
use Rattle.ras_requests.specs.Replies.{reply_of, reply_with_grant}
use Rattle.zone_tables.specs.declared.unit_request.Purpose.{Purpose}
use Rattle.zone_tables.specs.declared.unit_request.Purpose.TheVariants as purpose
use Rattle.zone_tables.specs.declared.unit_request.UnitRequest.{UnitRequest}
use Rattle.ras_machine.specs.Courses.{heard_at}
use Rattle.ras_machine.specs.declared.job.Occasion.{Occasion}
use Rattle.ras_machine.specs.declared.job.Occasion.TheVariants.{Again, Anew, First}

grant_untold : (seq : ℕ) (what : Purpose) (grant : Option ℕ)
    → identifier_in (reply_with_grant seq what grant) ≡ None
grant_untold seq (purpose.Opening told) None = refl
grant_untold seq (purpose.Raising had) None = refl
grant_untold seq (purpose.Opening told) (Some units) = refl
grant_untold seq (purpose.Raising had) (Some units) = refl

pub untold : (seq : ℕ) (q : UnitRequest) (answer : Lend) (waits : Bool) (delay : ℕ)
    → identifier_in (reply_of seq q answer waits delay) ≡ None
untold seq q answer true delay = refl
untold seq q answer false delay = grant_untold seq q.purpose (grant_of q.least answer)

pub same_settings : (z : Tables) (occasion : Occasion) (now : ℕ) (endpoint : Option (List ℕ))
    → (heard_at z occasion now endpoint).config ≡ z.config
same_settings z (First dropped) now None = refl
same_settings z Anew now None = refl
same_settings z (First dropped) now (Some id) = refl
same_settings z Anew now (Some id) = refl
same_settings z (Again born left) now endpoint = refl

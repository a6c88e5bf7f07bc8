-- What is due of one endpoint, as the search goes through them.
use Rattle.std.specs.Prelude.{ℕ, Option, None, nat_eq, if◌then◌else◌}
use Rattle.admission.specs.Calls.{OpenCalls, legs_of}
use Rattle.registrations.specs.declared.registration.Registration.{Registration}
use Rattle.registrations.specs.declared.times.Times.{Times}
use Rattle.zone_events.specs.declared.due_item.DueItem.{DueItem}
use Rattle.zone_tables.specs.EndpointsDue.{item_in_call}

abbrev pub item_of : ℕ → Times → OpenCalls → Registration → Option DueItem
item_of now times calls r =
    if nat_eq (legs_of calls r.identifier) 0 then None else item_in_call now times r

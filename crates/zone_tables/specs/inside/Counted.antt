-- In how many calls each registered endpoint has a leg, as it is kept with its registration.
use Rattle.std.specs.Prelude.{◌≡◌, ◌≤◌, ◌+◌, ◌-◌, ℕ, List, Option, Some, None, IfSome, IsSome}
use Rattle.std.specs.Option.{option_map}
use Rattle.std.specs.FinMap.{get, insert, remove}
use Rattle.keyed.specs.Maps.{update}
use Rattle.admission.specs.Calls.{OpenCalls, legs_of}
use Rattle.pools.specs.declared.interface.Lend.{Lend}
use Rattle.registrations.specs.Registry.{LegCounts, Live}
use Rattle.registrations.specs.declared.table.TheConstants.Registrations as rows
use Rattle.zone_tables.specs.declared.change.EndpointChange.{EndpointChange}
use Rattle.zone_tables.specs.declared.change.EndpointChange.TheVariants.{Renewal, Rewriting}
use Rattle.zone_tables.specs.declared.change.EndpointChange.TheVariants.{Addition, Removal}
use Rattle.zone_tables.specs.declared.change.CallChange.{CallChange}
use Rattle.zone_tables.specs.declared.change.CallChange.TheVariants.{Opening, Joining, Lowering}
use Rattle.zone_tables.specs.declared.change.CallChange.TheVariants.{Leaving}
use Rattle.zone_tables.specs.declared.change.Move.{Move}
use Rattle.zone_tables.specs.declared.change.Move.TheVariants.{Comes, Goes, Stays}
use Rattle.zone_tables.specs.declared.unit_request.UnitRequest.{UnitRequest}
use Rattle.zone_tables.specs.declared.unit_request.Purpose.{Purpose}
use Rattle.zone_tables.specs.declared.unit_request.Purpose.TheVariants as purpose
use Rattle.zone_tables.specs.Tables.{identifier_at}
use Rattle.zone_tables.specs.Pools.{grant_of}

-- an endpoint has this many legs if it is registered, and else there is no number for it
abbrev pub IsCounted : Live → OpenCalls → LegCounts → List ℕ → Type 0
IsCounted live calls legs id = get legs id ≡ option_map (λ r. legs_of calls id) (get live id)

abbrev pub AreCounted : Live → OpenCalls → LegCounts → Type 0
AreCounted live calls legs = (id : List ℕ) → IsCounted live calls legs id

-- whether the endpoint for which the calls are changed has one leg more then, or one leg fewer
abbrev pub move_of : CallChange → Move
move_of (Opening key pool told) = Comes
move_of (Joining key told) = Comes
move_of (Lowering key units pool back) = Stays
move_of (Leaving key) = Goes

-- the same after a pool's answer: if it lends enough, the endpoint that opens a call has a leg more
abbrev pub move_of_purpose : Purpose → Move
move_of_purpose (purpose.Opening told) = Comes
move_of_purpose (purpose.Raising had) = Stays

abbrev pub move_with_grant : Purpose → Option ℕ → Move
move_with_grant p None = Stays
move_with_grant p (Some units) = move_of_purpose p

abbrev pub move_of_answer : UnitRequest → Lend → Move
move_of_answer q answer = move_with_grant q.purpose (grant_of q.least answer)

abbrev pub legs_after_move : List ℕ → Move → LegCounts → LegCounts
legs_after_move id Comes legs = update legs id (λ n. n + 1)
legs_after_move id Goes legs = update legs id (λ n. n - 1)
legs_after_move id Stays legs = legs

-- the endpoint is registered, and its number of legs is one that can be raised or lowered
abbrev pub IsMove : Live → LegCounts → List ℕ → Move → Type 0
IsMove live legs id Comes = IsSome (get live id) × IfSome (get legs id) (λ n. n ≤ rows.MOST_LEGS)
IsMove live legs id Goes = IsSome (get live id) × IfSome (get legs id) (λ n. 1 ≤ n)
IsMove live legs id Stays = Unit {0}

-- the numbers of legs after a change of the registrations
abbrev pub legs_after_change : Live → EndpointChange → LegCounts → LegCounts
legs_after_change live (Renewal deadline) legs = legs
legs_after_change live (Rewriting e deadline) legs = legs
legs_after_change live (Addition r) legs = insert legs r.identifier 0
legs_after_change live (Removal address) legs = remove legs (identifier_at live address)

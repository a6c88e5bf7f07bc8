use denote.Param.Send.{sendable}
use Rattle.std.proofs.Common.{◌≡◌, IfOk, subst, sym, vec_len}
use Rattle.std.specs.Option.{IfSome, ok_or}
use Rattle.std.specs.Prelude.{None, Option, Result, Some}
use Rattle.udp_server.specs.Orders.{numbers_back}
use Rattle.udp_server.proofs.threads.run.Goals as goal

-- what holds of a value, if there is one, holds of the result that has it
if_ok : {T E : Type 0} (value : Option T) (fault : E) (P : T → Type 0) → IfSome value P
    → IfOk (ok_or value fault) P
if_ok (Some value) fault P holds = holds
if_ok None fault P holds = tt

-- the closure of the scope may always be called, since the types cross threads
pub scoped-record-requires : goal.scoped-record-requires
scoped-record-requires g c = record {
  at = λ s. (
    c.requires.orders,
    (
      search sendable depth 8,
      search sendable depth 8,
      search sendable depth 8,
      search sendable depth 8,
      search sendable depth 8,
      search sendable depth 8,
      search sendable depth 8,
      search sendable depth 8,
      search sendable depth 8,
      search sendable depth 8,
      search sendable depth 8,
      search sendable depth 8,
      search sendable depth 8,
      search sendable depth 8,
    ),
  );
}

pub returns : goal.returns
returns g c =
    subst (λ (r : Result _ _). IfOk r (λ left. numbers_back left.boxes.items
    ≡ g.O.OrderNumbers.numbers)) (sym c.ok_or.ensures.value)
    (if_ok c.scoped-record.result _ (λ left. numbers_back left.boxes.items
    ≡ g.O.OrderNumbers.numbers) c.scoped-record.ensures.1)

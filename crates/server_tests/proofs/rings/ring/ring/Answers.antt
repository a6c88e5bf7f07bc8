use Rattle.std.proofs.Common.{arith}
use Rattle.server_tests.proofs.OneItem.{slice_get-only}
use Rattle.server_tests.proofs.rings.ring.ring.Goals as goal

pub returns-in-Some-Some : goal.returns-in-Some-Some
returns-in-Some-Some c =
    let made = c.in_ok-outlets.ensures in
    let popped = c.in-Some-Some in
    (made.rings 0 _ _
    (slice_get-only _ _ _ popped.ensures.items (omega (arith, made.outlets)))
    (slice_get-only _ _ _ popped.ensures'.items (omega (arith, made.inlets)))).ring

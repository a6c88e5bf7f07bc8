use Rattle.std.proofs.Common.{rules, ◌≡◌, ◌∙◌, ◌+◌, ◌-◌, sym, suc, arith, length, take, false, nat_eq}
use Rattle.std.proofs.lemmas.Bool.Decides.{nat_tests}
use Rattle.ras_reading.specs.Messages.{message_reading}
use Rattle.explaining.specs.Places.{fault_number_of}
use Rattle.explaining.proofs.Placing.{place_later}
use Rattle.explaining.proofs.place.place_of.Goals as goal

pub loop-count-preserved : goal.loop-count-preserved
loop-count-preserved c =
    let octets = c.args.octets.now in
    let count = c.loop-count.count in
    let found = c.in_ok-fault_number.field-0 in
    let left : length octets - count ≡ suc (length octets - (count + 1)) = omega arith in
    let is_found : found ≡ fault_number_of (message_reading (take count octets)) =
    c.in_ok-fault_number.ensures in
    let other : nat_eq found c.number-number.result ≡ false = search (rules, nat_tests) in
    sym (place_later octets c.number-number.result count _ _ found left is_found other)
    ∙ c.loop-count.invariant

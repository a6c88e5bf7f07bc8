-- Keys of calls, compared and in order.
use Rattle.std.specs.Prelude.{Bool, nat_eq}
use Rattle.std.specs.declared.cmp.Ordering.{Ordering}
use Rattle.std.specs.Ordering.{nat_cmp}
use Rattle.std.specs.Cmp.Lexicographic.{pointwise, slice_cmp}
use Rattle.ras_module.specs.declared.call_key.CallKey.{CallKey}

-- keys are compared by their octets
abbrev pub same_call_key : CallKey → CallKey → Bool
same_call_key a b = pointwise nat_eq a.octets b.octets

-- and ordered by them, the first octet first
abbrev pub call_key_cmp : CallKey → CallKey → Ordering
call_key_cmp a b = slice_cmp nat_cmp a.octets b.octets

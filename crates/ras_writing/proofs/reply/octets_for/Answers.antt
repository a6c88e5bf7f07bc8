use Rattle.std.proofs.Common.{ℕ, ◌+◌, ◌-◌, ◌/◌, ap, ◌∙◌}
use Rattle.per_bits.proofs.Numbers.{width_is}
use Rattle.ras_writing.proofs.reply.octets_for.Goals as goal

pub returns-clause-value : goal.returns-clause-value
returns-clause-value c =
    ap (λ (k : ℕ). k / 8 + 1) (c.saturating_sub.ensures ∙ ap (λ (k : ℕ). k - 1)
    (width_is c.args.n c.ranges.n.fits))

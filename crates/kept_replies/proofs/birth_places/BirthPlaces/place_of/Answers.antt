use Rattle.std.proofs.Common.{ap, sym, ◌∙◌}
use Rattle.std.specs.Prelude.{nat_eq, position}
use Rattle.kept_replies.proofs.PlacedBirths.{same_place}
use Rattle.kept_replies.proofs.birth_places.BirthPlaces.place_of.Goals as goal

pub returns-then-self : goal.returns-then-self
returns-then-self c =
    c.get_index_of.ensures.index
    ∙ (ap (position (nat_eq c.args.born)) (ap (λ t. t.births) c.self.view_is
    ∙ c.requires (sym (ap (λ t. t.is_whole) c.self.view_is) ∙ c.if-self.true))
    ∙ same_place c.args.born c.args.rows.now.entries)

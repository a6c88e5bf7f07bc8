-- The figures of the members of a set.
use Rattle.std.proofs.Common.{◌≡◌, ◌≤◌, ℕ, List, length, All, ◌∙◌, ap}
use Rattle.std.proofs.lemmas.List.{length-map}
use Rattle.std.proofs.lemmas.List.Elements.{All-map}
use Rattle.std.proofs.Math.ListN as seq
use Rattle.pools.specs.declared.interface.Figures.{Figures}
use Rattle.pools.specs.Account.{Account, IsWithinLimit, opening_account}
use Rattle.pools.specs.Members.{Member, accounts_of, member_at, new_member}
use Rattle.zone_tables.specs.Pools.{AreWithinLimits, figures_at, figures_of}

abbrev figures : Account → Figures
figures a = a.figures

abbrev account : Member → Account
account m = m.account

-- the member past the end
abbrev nobody : Member
nobody = new_member (opening_account 0)

-- the figures at a place are those of the pool there
pub figures_there : (members : List Member) (i : ℕ)
    → figures_at (figures_of (accounts_of members)) i ≡ (member_at members i).account.figures
figures_there members i =
    seq.get_or-map figures (accounts_of members) i (opening_account 0)
    ∙ ap figures (seq.get_or-map account members i nobody)

-- the number of figures is the number of pools
pub length-figures : (members : List Member)
    → length (figures_of (accounts_of members)) ≡ length members
length-figures members = length-map (accounts_of members) figures ∙ length-map members account

pub members_within : (members : List Member) → All (λ m. IsWithinLimit m.account) members
    → AreWithinLimits (figures_of (accounts_of members))
members_within members h =
    All-map (λ f. f.lent ≤ f.limit) figures (accounts_of members)
    (All-map IsWithinLimit account members h)

-- A zone in JSON.
use Rattle.std.specs.Prelude.{ℕ, List, [], ◌∷◌, ◌++◌, codes}
use Rattle.std.specs.Fmt.{decimal}
use Rattle.std.specs.List.{concat}
use Rattle.pools.specs.declared.interface.Figures.{Figures}
use Rattle.zone_view.specs.Counts.{count_at}
use Rattle.zone_view.specs.Labels.{reject_label, reject_message, reply_label}
use Rattle.zone_view.specs.declared.count.Count.{Count}
use Rattle.zone_view.specs.declared.count.Count.TheVariants as count
use Rattle.zone_view.specs.declared.figures.ServerFigures.{ServerFigures}
use Rattle.zone_view.specs.declared.figures.ZoneFigures.{ZoneFigures}
use Rattle.zone_view.specs.declared.reject.Reject.{Reject}
use Rattle.status_page.specs.Counted.{answers, ignored, label_of, rejects, replies, requests, turns}
use Rattle.status_page.specs.Texts.{address_text, json_text, with_commas}
use Rattle.status_page.specs.declared.overview.About.{About}
use Rattle.status_page.specs.declared.overview.Overview.{Overview}

-- what a zone is called, and where it is served
unfoldable pub about_json : About → List ℕ
about_json about =
    codes "\"name\":\"" ++ json_text about.name
    ++ codes "\",\"address\":\"" ++ address_text about.address ++ codes "\""

-- the figures of a zone
abbrev pub figure_parts : ZoneFigures → List (List ℕ)
figure_parts figures =
    codes ",\"clock\":" ∷ decimal figures.clock ∷ codes ",\"steps\":" ∷ decimal figures.steps
    ∷ codes ",\"endpoints\":" ∷ decimal figures.endpoints ∷ codes ",\"calls\":"
    ∷ decimal figures.calls ∷ codes ",\"kept\":" ∷ decimal figures.kept ∷ codes ",\"in_use\":"
    ∷ decimal figures.in_use ∷ codes ",\"limit\":" ∷ decimal figures.limit ∷ []

unfoldable pub figures_json : ZoneFigures → List ℕ
figures_json figures = concat (figure_parts figures)

-- the figures of a pool
abbrev pub pool_parts : Figures → List (List ℕ)
pool_parts pool =
    codes "{\"limit\":" ∷ decimal pool.limit ∷ codes ",\"lent\":" ∷ decimal pool.lent
    ∷ codes ",\"refusals\":" ∷ decimal pool.refusals ∷ codes ",\"waits\":" ∷ decimal pool.waits
    ∷ codes "}" ∷ []

unfoldable pub pool_json : Figures → List ℕ
pool_json pool = concat (pool_parts pool)

-- how often something came, as in "GRQ":7
unfoldable pub member_json : List ℕ → Count → List ℕ
member_json numbers what =
    codes "\"" ++ label_of what ++ codes "\":" ++ decimal (count_at what numbers)

unfoldable pub members_json : List ℕ → List Count → List ℕ
members_json numbers kinds = codes "{" ++ with_commas (member_json numbers) kinds ++ codes "}"

-- how often a request was rejected for a reason
abbrev pub reject_parts : List ℕ → Reject → List (List ℕ)
reject_parts numbers which =
    codes "{\"message\":\"" ∷ reply_label (reject_message which) ∷ codes "\",\"reason\":\""
    ∷ reject_label which ∷ codes "\",\"count\":"
    ∷ decimal (count_at (count.Reject which) numbers) ∷ codes "}" ∷ []

unfoldable pub reject_json : List ℕ → Reject → List ℕ
reject_json numbers which = concat (reject_parts numbers which)

unfoldable pub rejects_json : List ℕ → List Reject → List ℕ
rejects_json numbers kinds = codes "[" ++ with_commas (reject_json numbers) kinds ++ codes "]"

-- what was counted of its steps
abbrev pub count_parts : List ℕ → List (List ℕ)
count_parts numbers =
    codes "{\"requests\":" ∷ members_json numbers requests ∷ codes ",\"replies\":"
    ∷ members_json numbers replies ∷ codes ",\"rejects\":"
    ∷ rejects_json numbers rejects ∷ codes ",\"ignored\":"
    ∷ members_json numbers ignored ∷ codes ",\"turns\":" ∷ members_json numbers turns
    ∷ codes ",\"answers\":" ∷ members_json numbers answers ∷ codes ",\"repeats\":"
    ∷ decimal (count_at count.Repeat numbers) ∷ codes "}" ∷ []

unfoldable pub counts_json : List ℕ → List ℕ
counts_json numbers = concat (count_parts numbers)

-- what its server counted
abbrev pub server_parts : ServerFigures → List (List ℕ)
server_parts server =
    codes "{\"received\":" ∷ decimal server.received ∷ codes ",\"sent\":" ∷ decimal server.sent
    ∷ codes ",\"dropped\":" ∷ decimal server.dropped ∷ codes ",\"refused\":"
    ∷ decimal server.refused ∷ codes ",\"receive_faults\":" ∷ decimal server.receive_faults
    ∷ codes ",\"send_faults\":" ∷ decimal server.send_faults ∷ codes "}" ∷ []

unfoldable pub server_json : ServerFigures → List ℕ
server_json server = concat (server_parts server)

-- a zone
abbrev pub zone_parts : About → Overview → List (List ℕ)
zone_parts about overview =
    codes "{" ∷ about_json about ∷ figures_json overview.figures ∷ codes ",\"pools\":["
    ∷ with_commas pool_json overview.pools.items ∷ codes "],\"counts\":"
    ∷ counts_json overview.counts ∷ codes ",\"server\":" ∷ server_json overview.server
    ∷ codes "}\n" ∷ []

unfoldable pub zone_text : About → Overview → List ℕ
zone_text about overview = concat (zone_parts about overview)

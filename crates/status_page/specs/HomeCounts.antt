-- What was counted, on the page for people.
use Rattle.std.specs.Prelude.{ℕ, Bool, cond, nat_eq, List, [], ◌∷◌, ◌++◌, codes, flat_map}
use Rattle.std.specs.Fmt.{decimal}
use Rattle.std.specs.List.{concat, list_all}
use Rattle.zone_view.specs.Counts.{count_at}
use Rattle.zone_view.specs.Labels.{reject_label, reject_message, reply_label}
use Rattle.zone_view.specs.declared.count.Count.{Count}
use Rattle.zone_view.specs.declared.count.Count.TheVariants as count
use Rattle.zone_view.specs.declared.figures.ServerFigures.{ServerFigures}
use Rattle.zone_view.specs.declared.reject.Reject.{Reject}
use Rattle.status_page.specs.Counted.{answers, ignored, label_of, rejects, replies, requests, turns}
use Rattle.status_page.specs.HomeParts.{words_of}

-- a count behind its label; one of zero is paler than others
abbrev pub number_front : ℕ → List ℕ
number_front number = cond (nat_eq number 0) (codes "</dt><dd class=zero>") (codes "</dt><dd>")

unfoldable pub number_html : ℕ → List ℕ
number_html number = number_front number ++ decimal number ++ codes "</dd>"

unfoldable pub entry_html : List ℕ → ℕ → List ℕ
entry_html label number = codes "<dt>" ++ words_of label ++ number_html number

-- counts under a title, one for each of these kinds, by its label
abbrev pub entries_html : List ℕ → List Count → List ℕ
entries_html numbers kinds =
    flat_map (λ what. entry_html (label_of what) (count_at what numbers)) kinds

unfoldable pub list_html : List ℕ → List ℕ → List Count → List ℕ
list_html title numbers kinds =
    codes "<div><h3>" ++ title ++ codes "</h3><dl>" ++ entries_html numbers kinds
    ++ codes "</dl></div>\n"

-- how often requests were rejected for a reason, by message and reason, if they were
unfoldable pub reject_html : Reject → ℕ → List ℕ
reject_html which number =
    cond (nat_eq number 0) []
    (codes "<dt>" ++ reply_label (reject_message which) ++ codes " " ++ reject_label which
    ++ number_html number)

abbrev pub rejected : List ℕ → Reject → ℕ
rejected numbers which = count_at (count.Reject which) numbers

abbrev pub reject_entries : List ℕ → List Reject → List ℕ
reject_entries numbers kinds = flat_map (λ which. reject_html which (rejected numbers which)) kinds

-- whether no request was rejected for one of these reasons
abbrev pub is_none_rejected : List ℕ → List Reject → Bool
is_none_rejected numbers kinds = list_all (λ which. nat_eq (rejected numbers which) 0) kinds

abbrev pub rejects_end : Bool → List ℕ
rejects_end is_none =
    cond is_none (codes "</dl><p class=none>No request was rejected.</p></div>\n")
    (codes "</dl></div>\n")

abbrev pub rejects_parts : List ℕ → List (List ℕ)
rejects_parts numbers =
    codes "<div><h3>Rejects</h3><dl>" ∷ reject_entries numbers rejects
    ∷ rejects_end (is_none_rejected numbers rejects) ∷ []

unfoldable pub rejects_html : List ℕ → List ℕ
rejects_html numbers = concat (rejects_parts numbers)

-- what a server counted, with the repeats that it answered
abbrev pub server_parts : ServerFigures → ℕ → List (List ℕ)
server_parts server repeats =
    codes "<div><h3>Server</h3><dl>"
    ∷ entry_html (codes "received") server.received
    ∷ entry_html (codes "sent") server.sent
    ∷ entry_html (codes "repeated") repeats
    ∷ entry_html (codes "dropped") server.dropped
    ∷ entry_html (codes "refused") server.refused
    ∷ entry_html (codes "receive_faults") server.receive_faults
    ∷ entry_html (codes "send_faults") server.send_faults
    ∷ codes "</dl></div>\n" ∷ []

unfoldable pub server_html : ServerFigures → ℕ → List ℕ
server_html server repeats = concat (server_parts server repeats)

-- all that was counted
abbrev pub count_parts : List ℕ → ServerFigures → List (List ℕ)
count_parts numbers server =
    codes "<section id=traffic><h2>Traffic</h2><div class=counts>\n"
    ∷ list_html (codes "Requests") numbers requests
    ∷ list_html (codes "Replies") numbers replies
    ∷ rejects_html numbers
    ∷ list_html (codes "Ignored datagrams") numbers ignored
    ∷ list_html (codes "Turns of the timers") numbers turns
    ∷ list_html (codes "Answers of pools") numbers answers
    ∷ server_html server (count_at count.Repeat numbers)
    ∷ codes "</div></section>\n" ∷ []

unfoldable pub counts_html : List ℕ → ServerFigures → List ℕ
counts_html numbers server = concat (count_parts numbers server)

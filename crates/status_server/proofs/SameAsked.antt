-- The derived tests of equality of queries, and of what is asked for, decide whether they are equal.
use Rattle.std.proofs.Common.{◌≡◌, ◌∙◌, Bool, true, false, sym, rules}
use Rattle.std.specs.Bool.{Decides}
use Rattle.ras_module.specs.Same.{texts_decide, call_key_decides}
use Rattle.status_page.specs.declared.asked.Asked.{Asked}
use Rattle.status_page.specs.declared.asked.Asked.TheVariants.{Home, Metrics, Zone, Endpoints, Calls, Health, WrongQuery, NoPage, NotAllowed}
use Rattle.status_page.specs.declared.query.Query.{Query}
use Rattle.status_page.specs.contracts.asked.AskedPartialEq.TheImpl as asked_eq
use Rattle.status_page.specs.contracts.query.QueryPartialEq.TheImpl as query_eq

never : {A : Type 0} → false ≡ true → A
never h = absurd (cc h)

pub query_decides : (a b : Query) → Decides ((query_eq.ghosts).eq a b) (a ≡ b)
query_decides a b = search (rules, texts_decide, call_key_decides)

pub asked_decides : (a b : Asked) → Decides ((asked_eq.ghosts).eq a b) (a ≡ b)
asked_decides (Home a) (Home b) = search (rules, query_decides)
asked_decides (Endpoints a) (Endpoints b) = search (rules, query_decides)
asked_decides (Calls a) (Calls b) = search (rules, query_decides)
asked_decides Metrics Metrics = search rules
asked_decides Zone Zone = search rules
asked_decides Health Health = search rules
asked_decides WrongQuery WrongQuery = search rules
asked_decides NoPage NoPage = search rules
asked_decides NotAllowed NotAllowed = search rules
asked_decides a b = (λ h. never h, λ e. absurd (cc e))

-- what passes the test is equal
pub same_asked : (test : Bool) (a b : Asked) → test ≡ (asked_eq.ghosts).eq a b → test ≡ true → a ≡ b
same_asked test a b is passes = (asked_decides a b).0 (sym is ∙ passes)

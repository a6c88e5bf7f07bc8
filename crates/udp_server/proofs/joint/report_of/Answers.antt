use Rattle.std.proofs.Common.{◌≡◌, ℕ, IfOk, ap, subst}
use Rattle.std.specs.Prelude.{Err, List, Ok, Result}
use Rattle.books.specs.declared.book.Receipt.{Receipt}
use Rattle.books.specs.declared.chapter.Chapter.{Chapter}
use Rattle.udp_server.proofs.Each.{of_each}
use Rattle.udp_server.proofs.joint.report_of.Goals as goal

pub returns-in-Ok-clause-dropped : goal.returns-in-Ok-clause-dropped
returns-in-Ok-clause-dropped g c =
    subst (λ (n : ℕ). IfOk c.report_with.result (λ r. r.dropped ≡ n)) c.in-Ok.ensures.dropped
    c.report_with.ensures.dropped

pub returns-in-Ok-clause-refused : goal.returns-in-Ok-clause-refused
returns-in-Ok-clause-refused g c =
    subst (λ (n : ℕ). IfOk c.report_with.result (λ r. r.refused ≡ n)) c.in-Ok.ensures.refused
    c.report_with.ensures.refused

pub returns-in-Ok-clause-receive_faults : goal.returns-in-Ok-clause-receive_faults
returns-in-Ok-clause-receive_faults g c =
    subst (λ (n : ℕ). IfOk c.report_with.result (λ r. r.receive_faults ≡ n))
    c.in-Ok.ensures.faults c.report_with.ensures.receive_faults

pub returns-in-Ok-clause-chapters : goal.returns-in-Ok-clause-chapters
returns-in-Ok-clause-chapters g c =
    subst (λ (all : List Chapter). IfOk c.report_with.result (λ r. r.chapters.items ≡ all))
    c.in-Ok.ensures.chapters
    (of_each c.report_with.result (λ r. r.chapters ≡ c.in-Ok.joint.chapters)
    (λ r. r.chapters.items ≡ c.in-Ok.joint.chapters.items) (λ r is. ap (λ v. v.items) is)
    c.report_with.ensures.chapters)

pub returns-in-Ok-clause-receipts : goal.returns-in-Ok-clause-receipts
returns-in-Ok-clause-receipts g c =
    subst (λ (all : List Receipt). IfOk c.report_with.result (λ r. r.receipts.items ≡ all))
    c.in-Ok.ensures.receipts
    (of_each c.report_with.result (λ r. r.receipts ≡ c.in-Ok.joint.receipts)
    (λ r. r.receipts.items ≡ c.in-Ok.joint.receipts.items) (λ r is. ap (λ v. v.items) is)
    c.report_with.ensures.receipts)

-- What an audit finds.
use Rattle.std.specs.Prelude.{ℕ, List}
use Rattle.books.specs.declared.book.Receipt.{Receipt}
use Rattle.books.specs.Chapters.{ChapterValue, FinishedValue}
use Rattle.book_audit.specs.declared.fault.AuditFault.{AuditFault}
use Rattle.book_audit.specs.declared.fault.AuditFault.TheVariants as fault
use Rattle.book_audit.specs.Joined.{IsJoined, history_entries}
use Rattle.book_audit.specs.Receipts.{HasReceiptFault}

-- the numbers of the faults
abbrev pub audit_fault_number : AuditFault → ℕ
audit_fault_number fault.WrongPlace = 1
audit_fault_number fault.WrongEntry = 2
audit_fault_number fault.Twice = 3
audit_fault_number fault.OutOfOrder = 4
audit_fault_number fault.NotJoined = 6

-- the history is joined, and a receipt has this fault
pub record IsFaultInReceipts (chapters : List ChapterValue) (finished : FinishedValue)
    (receipts : List Receipt) (what : AuditFault) : Type 0 where
  pub joined : IsJoined chapters finished
  pub fault : HasReceiptFault (history_entries chapters finished) receipts what

-- what is wrong: first, that the history isn't joined; else the first receipt that isn't good
abbrev pub IsFault : List ChapterValue → FinishedValue → List Receipt → AuditFault → Type 0
IsFault chapters finished receipts fault.NotJoined = IsJoined chapters finished → ⊥
IsFault chapters finished receipts what = IsFaultInReceipts chapters finished receipts what

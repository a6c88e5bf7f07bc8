-- Receipts against the entries of a history.
use Rattle.std.specs.Prelude.{◌≡◌, ◌≢◌, ◌<◌, ◌≤◌, ℕ, All, Any, List, take, None, Some, slice_get}
use Rattle.books.specs.declared.book.Entry.{Entry}
use Rattle.books.specs.declared.book.Receipt.{Receipt}
use Rattle.book_audit.specs.declared.fault.AuditFault.{AuditFault}
use Rattle.book_audit.specs.declared.fault.AuditFault.TheVariants as fault

-- the entry of which a receipt tells
abbrev pub receipt_entry : Receipt → Entry
receipt_entry r = record { seat = r.seat; call = r.call; event = r.event; outcome = r.outcome }

-- an earlier receipt has this place
abbrev pub IsTaken : List Receipt → ℕ → Type 0
IsTaken earlier place = Any (λ e. e.place ≡ place) earlier

-- an earlier receipt of the same seat has a place that isn't below this one's
abbrev pub IsOvertaken : List Receipt → Receipt → Type 0
IsOvertaken earlier r = Any (λ e. (e.seat ≡ r.seat) × (r.place ≤ e.place)) earlier

-- The entry at the receipt's place is the one of which it tells, no earlier receipt has this place,
-- and the earlier ones of its seat have lower places.
pub record IsGood (entries : List Entry) (earlier : List Receipt) (r : Receipt) : Type 0 where
  pub entry : slice_get entries r.place ≡ Some (receipt_entry r)
  pub once : All (λ e. e.place ≢ r.place) earlier
  pub in_order : All (λ e. e.seat ≡ r.seat → e.place < r.place) earlier

-- What is wrong with a receipt: of its faults, the first in this order.
abbrev pub IsReceiptFault : List Entry → List Receipt → Receipt → AuditFault → Type 0
IsReceiptFault entries earlier r fault.WrongPlace = slice_get entries r.place ≡ None
IsReceiptFault entries earlier r fault.WrongEntry =
    (e : Entry) × (slice_get entries r.place ≡ Some e) × (e ≢ receipt_entry r)
IsReceiptFault entries earlier r fault.Twice =
    (slice_get entries r.place ≡ Some (receipt_entry r)) × IsTaken earlier r.place
IsReceiptFault entries earlier r fault.OutOfOrder =
    (slice_get entries r.place ≡ Some (receipt_entry r)) × All (λ e. e.place ≢ r.place) earlier
    × IsOvertaken earlier r
IsReceiptFault entries earlier r fault.NotJoined = ⊥

-- the first `n` receipts are good
abbrev pub AreGoodBelow : List Entry → List Receipt → ℕ → Type 0
AreGoodBelow entries receipts n = (i : ℕ) (r : Receipt) → i < n
    → slice_get receipts i ≡ Some r → IsGood entries (take i receipts) r

-- each entry is told of by a receipt, with its place
abbrev pub AreTold : List Entry → List Receipt → Type 0
AreTold entries receipts = (i : ℕ) (entry : Entry) → slice_get entries i ≡ Some entry
    → Any (λ r. (r.place ≡ i) × (receipt_entry r ≡ entry)) receipts

-- the first receipt that isn't good, and what is wrong with it
pub record HasReceiptFault (entries : List Entry) (receipts : List Receipt) (fault : AuditFault)
    : Type 0 where
  pub at : ℕ
  pub receipt : Receipt
  pub there : slice_get receipts at ≡ Some receipt
  pub before : AreGoodBelow entries receipts at
  pub wrong : IsReceiptFault entries (take at receipts) receipt fault

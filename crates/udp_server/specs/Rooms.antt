-- What a worker that keeps receipts has ready before a step.
use Rattle.std.specs.Prelude.{ℕ, ◌≡◌, ◌≤◌, ◌<◌, [], vec_capacity, vec_len, Vec}
use Rattle.ras_module.specs.declared.reply.TheConstants.Reply as reply_octets
use Rattle.books.specs.declared.book.Receipt.{Receipt}

-- an empty buffer for the octets of any reply, and a place behind the receipts
abbrev pub IsRoom : {Z : Type 0} → Vec ℕ Z → Vec Receipt Z → Type 0
IsRoom buffer receipts =
    (buffer.items ≡ []) × (reply_octets.MOST ≤ vec_capacity buffer)
    × (vec_len receipts < vec_capacity receipts)

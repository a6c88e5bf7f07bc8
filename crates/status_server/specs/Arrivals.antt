-- The next connection: what a look for one comes to.
use Rattle.std.specs.Prelude.{ℕ, ◌≡◌, ◌≤◌, ◌⊎◌, Option, Some, None, Result, Ok, Err}
use Rattle.status_server.specs.declared.host.TheConstants.{MOST_CONNECTIONS}

-- the connection that a look comes to; none if none comes before the next turn, or if the listener
-- fails
abbrev pub connection_of : {C A E T : Type 0} → Result (Result (C × A) E) T → Option C
connection_of (Ok (Ok accepted)) = Some accepted.0
connection_of (Ok (Err error)) = None
connection_of (Err elapsed) = None

-- there is no room for another connection
abbrev pub IsFull : (ℕ → Type 0) → Type 0
IsFull Serves = (count : ℕ) × Serves count × (MOST_CONNECTIONS ≤ count)

-- a look comes to this connection, or to none
abbrev pub IsFound : {C A E T : Type 0} → (Result (Result (C × A) E) T → Type 0) → Option C
    → Type 0
IsFound {C} {A} {E} {T} Finds next =
    (looked : Result (Result (C × A) E) T) × Finds looked × (next ≡ connection_of looked)

-- the next connection: a look comes to it; none if there is no room, or if a look comes to none
abbrev pub IsNext : {C A E T : Type 0} → (ℕ → Type 0) → (Result (Result (C × A) E) T → Type 0)
    → Option C → Type 0
IsNext Serves Finds (Some connection) = IsFound Finds (Some connection)
IsNext Serves Finds None = IsFull Serves ⊎ IsFound Finds None

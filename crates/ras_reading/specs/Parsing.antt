-- What the functions of this crate say of what they read from a decoder. Where it stands after a
-- fault is left open, since nothing more is read of a message with a fault.
use Rattle.std.specs.Prelude.{◌≡◌, ◌⊎◌, List, Bool, Result, Ok, Err}
use Rattle.ras_grammar.specs.declared.fault.ReadFault.{ReadFault}
use Rattle.ras_grammar.specs.declared.fault.ReadFault.TheVariants.{Memory}

-- What was read, or the fault, is what this function gives, and the decoder stands after what was
-- read.
abbrev pub Parses : {A : Type 0} → (List Bool → Result (A × List Bool) ReadFault) → List Bool
    → Result A ReadFault → List Bool → Type 0
Parses reading old (Ok x) new = reading old ≡ Ok (x, new)
Parses reading old (Err fault) new = reading old ≡ Err fault

-- The same, but a fault may also be that memory was refused. The function knows nothing of that.
abbrev pub ParsesUnlessMemory : {A : Type 0} → (List Bool → Result (A × List Bool) ReadFault)
    → List Bool
    → Result A ReadFault → List Bool → Type 0
ParsesUnlessMemory reading old (Ok x) new = reading old ≡ Ok (x, new)
ParsesUnlessMemory reading old (Err fault) new = (fault ≡ Memory) ⊎ (reading old ≡ Err fault)

-- What was read into a place is what the place has.
abbrev pub placed : {A : Type 0} → A → Result (Unit {0}) ReadFault → Result A ReadFault
placed x (Ok done) = Ok x
placed x (Err fault) = Err fault

-- What a grammar is, and how grammars are put together.
use Rattle.std.specs.Prelude.{ℕ, zero, suc, List, [], ◌∷◌, Bool, true, false, Option, Some, None}
use Rattle.std.specs.Prelude.{Result, Ok, Err, nat_eq}
use Rattle.per_bits.specs.Encodes.{EncodesBit, EncodesNumber, EncodesWhole, EncodesLength}
use Rattle.per_bits.specs.Encodes.{EncodesSmall, EncodesOctets, EncodesOpenType}
use Rattle.per_bits.specs.Exact.{IsExact}
use Rattle.per_bits.specs.Readings.{bit_reading, number_reading, whole_reading, length_reading}
use Rattle.per_bits.specs.Readings.{small_reading, octets_reading, open_type_reading}
use Rattle.ras_grammar.specs.declared.fault.ReadFault.{ReadFault}
use Rattle.ras_grammar.specs.Faults.{lifted, lifted_index}
use Rattle.ras_grammar.specs.Forms.{EncodesBoth, EncodesNothing, EncodesInside, EncodesAligned}
use Rattle.ras_grammar.specs.Forms.{both_reading, inside_reading, aligned_reading}
use Rattle.ras_grammar.specs.Exact.{both_exact, nothing_exact, failure_exact, inside_exact}
use Rattle.ras_grammar.specs.Exact.{aligned_exact, bit_lifts, index_lifts, number_lifts}
use Rattle.ras_grammar.specs.Exact.{whole_lifts}
use Rattle.ras_grammar.specs.Exact.{length_lifts, small_lifts, octets_lifts, open_type_lifts}

-- The values of one type: which bits encode a value at a place of their octet, and how a value is
-- read from the front of bits that end with an octet. It is read if and only if bits at the front
-- encode it.
pub record Grammar (A : Type 0) : Type 1 where
  pub encodes : A → ℕ → List Bool → Type 0
  pub reading : List Bool → Result (A × List Bool) ReadFault
  pub exact : IsExact encodes reading

-- one value, and then another, whose grammar may depend on the first
infixl 10 ◌>>=◌
abbrev pub ◌>>=◌ : {A B : Type 0} → Grammar A → (A → Grammar B) → Grammar B
first >>= next = record {
  encodes = EncodesBoth first.encodes (λ x. (next x).encodes);
  reading = both_reading first.reading (λ x. (next x).reading);
  exact = both_exact first.encodes first.reading (λ x. (next x).encodes) (λ x.
      (next x).reading) first.exact (λ x. (next x).exact);
}

-- a value for which there are no bits
abbrev pub is : {A : Type 0} → A → Grammar A
is x = record {
  encodes = EncodesNothing x;
  reading = λ bits. Ok (x, bits);
  exact = nothing_exact x;
}

-- no bits encode anything here
abbrev pub failure : {A : Type 0} → ReadFault → Grammar A
failure {A} fault = record {
  encodes = λ x place bits. ⊥;
  reading = λ bits. Err fault;
  exact = failure_exact {A = A} fault;
}

-- what is read, without what follows it
abbrev pub value_of : {A : Type 0} → Result (A × List Bool) ReadFault → Result A ReadFault
value_of (Ok x) = Ok x.0
value_of (Err fault) = Err fault

-- ---- the forms of X.691

abbrev pub boolean : Grammar Bool
boolean = record {
  encodes = EncodesBit;
  reading = λ bits. lifted (bit_reading bits);
  exact = bit_lifts;
}

-- a number in this many bits
abbrev pub bits : ℕ → Grammar ℕ
bits count = record {
  encodes = EncodesNumber count;
  reading = λ bits. lifted (number_reading count bits);
  exact = number_lifts count;
}

-- a constrained whole number
abbrev pub whole : ℕ → ℕ → Grammar ℕ
whole lo hi = record {
  encodes = EncodesWhole lo hi;
  reading = λ bits. lifted (whole_reading lo hi bits);
  exact = whole_lifts lo hi;
}

-- the index of a root alternative; `last` is that of the last one
abbrev pub choice_index : ℕ → Grammar ℕ
choice_index last = record {
  encodes = EncodesWhole 0 last;
  reading = λ bits. lifted_index (whole_reading 0 last bits);
  exact = index_lifts last;
}

-- an unconstrained length
abbrev pub length : Grammar ℕ
length = record {
  encodes = EncodesLength;
  reading = λ bits. lifted (length_reading bits);
  exact = length_lifts;
}

-- a normally small number
abbrev pub small : Grammar ℕ
small = record {
  encodes = EncodesSmall;
  reading = λ bits. lifted (small_reading bits);
  exact = small_lifts;
}

-- this many octets, from the next octet on
abbrev pub octets : ℕ → Grammar (List ℕ)
octets count = record {
  encodes = EncodesOctets count;
  reading = λ bits. lifted (octets_reading count bits);
  exact = octets_lifts count;
}

-- an open type, whatever its octets are
abbrev pub open_type : Grammar (List ℕ)
open_type = record {
  encodes = EncodesOpenType;
  reading = λ bits. lifted (open_type_reading bits);
  exact = open_type_lifts;
}

-- an open type whose octets begin with a value
abbrev pub inside : {A : Type 0} → Grammar A → Grammar A
inside g = record {
  encodes = EncodesInside g.encodes;
  reading = inside_reading g.reading;
  exact = inside_exact g.encodes g.reading g.exact;
}

-- a value from the next octet on
abbrev pub aligned : {A : Type 0} → Grammar A → Grammar A
aligned g = record {
  encodes = EncodesAligned g.encodes;
  reading = aligned_reading g.reading;
  exact = aligned_exact g.encodes g.reading g.exact;
}

-- ---- what is made of these

-- a value that is dropped
abbrev pub nothing : Grammar (Unit {0})
nothing = is tt

-- one grammar or another, by a test
abbrev pub either : {A : Type 0} → Bool → Grammar A → Grammar A → Grammar A
either true g other = g
either false g other = other

-- the grammar for one index, or what serves the other indexes
infix 5 if◌equals◌take◌else◌
abbrev pub if◌equals◌take◌else◌ : {A : Type 0} → ℕ → ℕ → Grammar A → Grammar A → Grammar A
if index equals n take g else other = either (nat_eq index n) g other

-- this many values one after another
abbrev pub each : {A : Type 0} → ℕ → Grammar A → Grammar (List A)
each zero g = is []
each (suc count) g = do
  x ← g
  xs ← each count g
  is (x ∷ xs)

-- a component that is OPTIONAL
abbrev pub optional : {A : Type 0} → Bool → Grammar A → Grammar (Option A)
optional true g = do
  x ← g
  is (Some x)
optional false g = is None

-- a component that is OPTIONAL and dropped
abbrev pub skipped : {A : Type 0} → Bool → Grammar A → Grammar (Unit {0})
skipped true g = do
  x ← g
  nothing
skipped false g = nothing

-- this many values one after another, which are dropped
abbrev pub each_skipped : {A : Type 0} → ℕ → Grammar A → Grammar (Unit {0})
each_skipped count g = do
  all ← each count g
  nothing

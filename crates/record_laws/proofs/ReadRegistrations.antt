-- What a RegistrationRequest is read as can be told again: its number, its call signal address and
-- its aliases are what their types keep.
use Rattle.std.proofs.Common.{◌≡◌, ℕ, zero, suc, ◌<◌, ◌≤◌, ◌^◌, List, [], ◌∷◌, Bool, true}
use Rattle.std.proofs.Common.{false, length, refl, sym, ap, subst, arith, nat_eq, nat_lt}
use Rattle.std.proofs.Common.{Option, Some, None, Result, Ok, Err}
use Rattle.std.specs.Prelude.{IfSome, IsTrue, ◌&&◌}
use Rattle.std.proofs.lemmas.Bool.Decides.{nat_tests}
use Rattle.std.specs.List.{AllByRecursion}
use Rattle.per_bits.specs.Bits.{bits_of}
use Rattle.per_bits.proofs.Numbers.{number_lt}
use Rattle.per_bits.proofs.Results.{ok_is}
use Rattle.ras_module.specs.declared.address.Address.{Address}
use Rattle.ras_module.specs.declared.alias.Alias.{Alias}
use Rattle.ras_module.specs.declared.alias.Alias.TheVariants.{Digits, H323Id}
use Rattle.ras_module.specs.declared.request.RegistrationRequest.{RegistrationRequest}
use Rattle.ras_module.specs.declared.request.Request.{Request}
use Rattle.ras_module.specs.declared.request.Request.TheVariants.{Grq, Rrq, Urq, Arq, Brq, Drq, Irr}
use Rattle.ras_module.specs.DialledDigits.{AreDialled, is_dialled}
use Rattle.ras_grammar.specs.declared.fault.ReadFault.{ReadFault}
use Rattle.ras_grammar.specs.declared.fault.ReadFault.TheVariants.{BadCharacter}
use Rattle.ras_grammar.specs.Addresses.{address_list, first_of, ip_address, ip_source_route}
use Rattle.ras_grammar.specs.Addresses.{ip6_address, ipx_address, net_bios, no_address, nsap}
use Rattle.ras_grammar.specs.Addresses.{root_address, some_address, transport_address}
use Rattle.ras_grammar.specs.Aliases.{alias_address, alias_list, dialled_digits, digit, digit_of}
use Rattle.ras_grammar.specs.Aliases.{optional_aliases, root_alias, served_in}
use Rattle.ras_grammar.specs.Grammar as grammar
use Rattle.ras_grammar.specs.Grammar.{Grammar, bits, either, failure, is, whole, value_of}
use Rattle.ras_grammar.specs.Grammar.{◌>>=◌, choice_index}
use Rattle.ras_grammar.specs.Sequences.{bmp_string, non_standard_parameter, unknown_alternative}
use Rattle.ras_reading.specs.Messages.{message_reading, not_served, ras_message}
use Rattle.ras_reading.specs.Messages.{root_alternative, root_message, served}
use Rattle.ras_reading.specs.Requests.{admission_request, bandwidth_request, disengage_request}
use Rattle.ras_reading.specs.Requests.{gatekeeper_request, info_request_response}
use Rattle.ras_reading.specs.Requests.{registration_request, unregistration_request}
use Rattle.ras_writing.specs.Properties.{IsAddress, IsAlias, IsDigits, IsH323Id, IsSeq}

-- what is read of a RegistrationRequest and told in its reply
pub record IsReadRegistration (q : RegistrationRequest) : Type 0 where
  pub numbered : IsSeq q.seq
  pub located : IfSome q.call_signal IsAddress
  pub named : AllByRecursion IsAlias q.aliases

-- each value that bits encode is such a value
abbrev Each : {A : Type 0} → Grammar A → (A → Type 0) → Type 0
Each {A} g P = (x : A) (place : ℕ) (front : List Bool) → g.encodes x place front → P x

either_each : {A : Type 0} (b : Bool) (g other : Grammar A) (P : A → Type 0) → Each g P
    → Each other P → Each (either b g other) P
either_each true g other P first second = first
either_each false g other P first second = second

items_each : {A : Type 0} (g : Grammar A) (P : A → Type 0) → Each g P → (count : ℕ)
    → Each (grammar.each count g) (λ xs. (length xs ≡ count) × AllByRecursion P xs)
items_each {A} g P fits zero xs place front h =
    subst (λ (ys : List A). (length ys ≡ 0) × AllByRecursion P ys) (sym h.0) (refl, tt)
items_each {A} g P fits (suc count) xs place front h =
    let x = h.0 in
    let inner = h.1.4 in
    let others = items_each g P fits count inner.0 _ _ inner.1.3 in
    subst (λ (ys : List A). (length ys ≡ suc count) × AllByRecursion P ys) (sym inner.1.4.0)
    (ap suc others.0, (fits x _ _ h.1.3, others.1))

-- ---- numbers and texts

whole_each : (lo hi : ℕ) → lo ≤ hi → Each (whole lo hi) (λ n. (lo ≤ n) × (n ≤ hi))
whole_each lo hi range n place front h = (omega (arith, h.2), omega (arith, h.1, h.2))

bits_each : (count : ℕ) → Each (bits count) (λ n. n < 2 ^ count)
bits_each count n place front h =
    subst (λ (k : ℕ). n < 2 ^ k) h.0 (subst (λ (k : ℕ). k < 2 ^ length front) h.1 (number_lt front))

text_each : Each (bmp_string 256) IsH323Id
unfolding bmp_string
text_each text place front h =
    let count = whole_each 1 256 (omega arith) h.0 _ _ h.1.3 in
    let items = items_each (bits 16) (λ n. n < 2 ^ 16) (bits_each 16) h.0 text _ _ h.1.4.4 in
    record {
      some = omega (arith, count.0, items.0);
      few = omega (arith, count.1, items.0);
      fit = items.1;
    }

digit_fits : (code : ℕ) → nat_lt 12 code ≡ false → IsTrue (is_dialled (digit_of code))
digit_fits code few = grind (arith, nat_tests)

digit_by : (b : Bool) (code : ℕ) → nat_lt 12 code ≡ b
    → Each (either b (failure BadCharacter) (is (digit_of code))) (λ c. IsTrue (is_dialled c))
digit_by true code few c place front h = absurd h
digit_by false code few c place front h =
    subst (λ (n : ℕ). IsTrue (is_dialled n)) (sym h.0) (digit_fits code few)

digit_each : Each digit (λ c. IsTrue (is_dialled c))
unfolding digit
digit_each c place front h = digit_by (nat_lt 12 h.0) h.0 refl c _ _ h.1.4

both : (a b : Bool) → IsTrue a → IsTrue b → IsTrue (a && b)
both true b h k = k
both false b h k = absurd cc

are_dialled : (text : List ℕ) → AllByRecursion (λ c. IsTrue (is_dialled c)) text → AreDialled text
are_dialled [] h = refl
are_dialled (c ∷ cs) h = both (is_dialled c) _ h.0 (are_dialled cs h.1)

digits_each : Each dialled_digits IsDigits
unfolding dialled_digits
digits_each text place front h =
    let count = whole_each 1 128 (omega arith) h.0 place h.1.0 h.1.3 in
    let items = items_each digit (λ c. IsTrue (is_dialled c)) digit_each h.0 text _ _ h.1.4.4 in
    record {
      some = omega (arith, count.0, items.0);
      few = omega (arith, count.1, items.0);
      dialled = are_dialled text items.1;
    }

-- ---- aliases

abbrev IsServed : Option Alias → Type 0
IsServed alias = IfSome alias IsAlias

alias_by : (b : Bool) (index : ℕ)
    → Each (either b (unknown_alternative None) (do
      found ← choice_index 1
      root_alias found)) IsServed
alias_by true index alias place front h =
    subst IsServed (sym h.1.4.1.4.0) tt
alias_by false index alias place front h =
    root (nat_eq h.0 0) alias _ _ h.1.4 where
      root : (b : Bool)
          → Each (either b (do
            text ← dialled_digits
            is (Some (Digits text))) (do
              text ← bmp_string 256
              is (Some (H323Id text)))) IsServed
      root true alias place front h =
          subst IsServed (sym h.1.4.0) (digits_each h.0 _ _ h.1.3)
      root false alias place front h =
          subst IsServed (sym h.1.4.0) (text_each h.0 _ _ h.1.3)

alias_each : Each alias_address IsServed
unfolding alias_address
alias_each alias place front h = alias_by h.0 0 alias _ _ h.1.4

served_fit : (all : List (Option Alias)) → AllByRecursion IsServed all
    → AllByRecursion IsAlias (served_in all)
served_fit [] h = tt
served_fit (Some alias ∷ others) h = (h.0, served_fit others h.1)
served_fit (None ∷ others) h = served_fit others h.1

aliases_each : Each alias_list (AllByRecursion IsAlias)
unfolding alias_list
aliases_each aliases place front h =
    let inner = h.1.4 in
    let items = items_each alias_address IsServed alias_each h.0 inner.0 _ _ inner.1.3 in
    subst (AllByRecursion IsAlias) (sym inner.1.4.0) (served_fit inner.0 items.1)

optional_each : (there : Bool) → Each (optional_aliases there) (AllByRecursion IsAlias)
optional_each there =
    either_each there alias_list (is []) (AllByRecursion IsAlias) aliases_each
    (λ aliases place front h. subst (AllByRecursion IsAlias) (sym h.0) tt)

-- ---- addresses

abbrev IsLocated : Option Address → Type 0
IsLocated address = IfSome address IsAddress

ip_each : Each ip_address IsAddress
unfolding ip_address
ip_each address place front h =
    let inner = h.1.4 in
    let octets = h.1.3.4 in
    let port = whole_each 0 65535 (omega arith) inner.0 _ _ inner.1.3 in
    subst IsAddress (sym inner.1.4.0) (record {
      four = octets.0;
      fit = octets.1;
      port = port.1;
    })

some_each : Each (some_address ip_address) IsLocated
some_each address place front h = subst IsLocated (sym h.1.4.0) (ip_each h.0 _ _ h.1.3)

none_each : (g : Grammar (Unit {0})) → Each (no_address g) IsLocated
none_each g address place front h = subst IsLocated (sym h.1.4.0) tt

root_each : (index : ℕ) → Each (root_address index) IsLocated
root_each index =
    either_each (nat_eq index 0) (some_address ip_address) _ IsLocated some_each
    (either_each (nat_eq index 1) (no_address ip_source_route) _ IsLocated
    (none_each ip_source_route)
    (either_each (nat_eq index 2) (no_address ipx_address) _ IsLocated (none_each ipx_address)
    (either_each (nat_eq index 3) (no_address ip6_address) _ IsLocated (none_each ip6_address)
    (either_each (nat_eq index 4) (no_address net_bios) _ IsLocated (none_each net_bios)
    (either_each (nat_eq index 5) (no_address nsap) (no_address non_standard_parameter) IsLocated
    (none_each nsap) (none_each non_standard_parameter))))))

address_by : (b : Bool)
    → Each (either b (unknown_alternative None) (do
      index ← choice_index 6
      root_address index)) IsLocated
address_by true address place front h = subst IsLocated (sym h.1.4.1.4.0) tt
address_by false address place front h = root_each h.0 address _ _ h.1.4

address_each : Each transport_address IsLocated
unfolding transport_address
address_each address place front h = address_by h.0 address _ _ h.1.4

first_fits : (all : List (Option Address)) → AllByRecursion IsLocated all
    → IsLocated (first_of all)
first_fits [] h = tt
first_fits (Some address ∷ others) h = h.0
first_fits (None ∷ others) h = first_fits others h.1

list_each : Each address_list IsLocated
unfolding address_list
list_each address place front h =
    let inner = h.1.4 in
    let items = items_each transport_address IsLocated address_each h.0 inner.0 _ _ inner.1.3 in
    subst IsLocated (sym inner.1.4.0) (first_fits inner.0 items.1)

-- ---- the message

registration_each : Each registration_request IsReadRegistration
unfolding registration_request
registration_each q place front h =
    let has_non_standard_data = h.1.4 in
    let has_aliases = has_non_standard_data.1.4 in
    let has_gatekeeper = has_aliases.1.4 in
    let seq = has_gatekeeper.1.4 in
    let protocol = seq.1.4 in
    let non_standard_data = protocol.1.4 in
    let discovery_complete = non_standard_data.1.4 in
    let call_signal = discovery_complete.1.4 in
    let ras = call_signal.1.4 in
    let terminal = ras.1.4 in
    let aliases = terminal.1.4 in
    let gatekeeper = aliases.1.4 in
    let vendor = gatekeeper.1.4 in
    let more = vendor.1.4 in
    subst IsReadRegistration (sym more.1.4.0) (record {
      numbered = whole_each 1 65535 (omega arith) seq.0 _ _ seq.1.3;
      located = list_each call_signal.0 _ _ call_signal.1.3;
      named = optional_each has_aliases.0 aliases.0 _ _ aliases.1.3;
    })

-- what is read of a request and told again: of a RegistrationRequest, that
abbrev pub IsReadRequest : Request → Type 0
IsReadRequest (Rrq q) = IsReadRegistration q
IsReadRequest other = Unit {0}

abbrev IsReadMessage : Option Request → Type 0
IsReadMessage message = IfSome message IsReadRequest

served_each : {A : Type 0} (kind : A → Request) (g : Grammar A)
    → Each g (λ q. IsReadRequest (kind q)) → Each (served kind g) IsReadMessage
served_each kind g fits message place front h =
    subst IsReadMessage (sym h.1.4.0) (fits h.0 _ _ h.1.3)

other_each : Each not_served IsReadMessage
other_each message place front h = subst IsReadMessage (sym h.0) tt

alternative_each : (index : ℕ) → Each (root_alternative index) IsReadMessage
alternative_each index =
    either_each (nat_eq index 0) (served Grq gatekeeper_request) _ IsReadMessage
    (served_each Grq gatekeeper_request (λ q place front h. tt))
    (either_each (nat_eq index 3) (served Rrq registration_request) _ IsReadMessage
    (served_each Rrq registration_request registration_each)
    (either_each (nat_eq index 6) (served Urq unregistration_request) _ IsReadMessage
    (served_each Urq unregistration_request (λ q place front h. tt))
    (either_each (nat_eq index 9) (served Arq admission_request) _ IsReadMessage
    (served_each Arq admission_request (λ q place front h. tt))
    (either_each (nat_eq index 12) (served Brq bandwidth_request) _ IsReadMessage
    (served_each Brq bandwidth_request (λ q place front h. tt))
    (either_each (nat_eq index 15) (served Drq disengage_request) _ IsReadMessage
    (served_each Drq disengage_request (λ q place front h. tt))
    (either_each (nat_eq index 22) (served Irr info_request_response) not_served IsReadMessage
    (served_each Irr info_request_response (λ q place front h. tt)) other_each))))))

root_message_each : Each root_message IsReadMessage
root_message_each message place front h = alternative_each h.0 message _ _ h.1.4

message_each : Each ras_message IsReadMessage
unfolding ras_message
message_each message place front h =
    either_each h.0 not_served root_message IsReadMessage other_each root_message_each message _ _
    h.1.4

-- what a reading gave, with what it left
read_whole : {A : Type 0} (r : Result (A × List Bool) ReadFault) (x : A) → value_of r ≡ Ok x
    → (rest : List Bool) × (r ≡ Ok (x, rest))
read_whole {A} (Ok pair) x is =
    (pair.1, ap (λ (y : A). Ok (y, pair.1)) (ok_is pair.0 x is))
read_whole (Err fault) x is = absurd (cc is)

pub request_read : (octets : List ℕ) (request : Request)
    → message_reading octets ≡ Ok (Some request) → IsReadRequest request
unfolding message_reading
request_read octets request is =
    let read = read_whole (ras_message.reading (bits_of octets)) (Some request) is in
    let found = ras_message.exact.found (bits_of octets) read.0 (Some request) read.1 in
    message_each (Some request) _ _ found.2

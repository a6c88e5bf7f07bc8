-- What the tests of equality decide.
use Rattle.std.proofs.Common.{◌≡◌, ℕ, Bool, true, false, List, nat_eq, refl, sym, ap}
use Rattle.std.specs.Bool.{Decides}
use Rattle.std.specs.Cmp.{IsEquivalence, IsPartialEquivalence, partial_equiv_from_equiv}
use Rattle.std.specs.Cmp.Lexicographic.{pointwise}
use Rattle.std.proofs.lemmas.Cmp.{lists_equiv}
use Rattle.std.proofs.lemmas.Slice.Eq.{slice_eq-Decides}
use Rattle.std.proofs.lemmas.Bool.Decides.{Decides-eqb}
use Rattle.std.proofs.lemmas.Bool.{and_parts, and_from}
use Rattle.ras_module.specs.declared.address.Address.{Address}
use Rattle.ras_module.specs.declared.alias.Alias.{Alias}
use Rattle.ras_module.specs.declared.alias.Alias.TheVariants.{Digits, H323Id}
use Rattle.ras_module.specs.declared.call_key.CallKey.{CallKey}
use Rattle.ras_module.specs.Addresses.{same_address}
use Rattle.ras_module.specs.Aliases.{same_alias}
use Rattle.ras_module.specs.CallKeys.{same_call_key}

pub texts_decide : (xs ys : List ℕ) → Decides (pointwise nat_eq xs ys) (xs ≡ ys)
texts_decide xs ys = slice_eq-Decides Decides-eqb xs ys (pointwise nat_eq xs ys) refl

pub address_decides : (a b : Address) → Decides (same_address a b) (a ≡ b)
address_decides a b = (
  λ h.
      (let both = and_parts _ _ h in
      let ips = (texts_decide a.ip b.ip).0 both.0 in
      let ports = (Decides-eqb a.port b.port).0 both.1 in
      λ i. record { ip = ips i; port = ports i }),
  λ e. and_from _ _ ((texts_decide a.ip b.ip).1 (ap (λ c. c.ip) e))
      ((Decides-eqb a.port b.port).1 (ap (λ c. c.port) e)),
)

pub call_key_decides : (a b : CallKey) → Decides (same_call_key a b) (a ≡ b)
call_key_decides a b = (
  λ h. (let octets = (texts_decide a.octets b.octets).0 h in λ i. record { octets = octets i }),
  λ e. (texts_decide a.octets b.octets).1 (ap (λ k. k.octets) e),
)

pub alias_decides : (a b : Alias) → Decides (same_alias a b) (a ≡ b)
alias_decides (Digits a) (Digits b) =
    (λ h. ap Digits ((texts_decide a b).0 h), λ e. (texts_decide a b).1 (cc e))
alias_decides (H323Id a) (H323Id b) =
    (λ h. ap H323Id ((texts_decide a b).0 h), λ e. (texts_decide a b).1 (cc e))
alias_decides (Digits a) (H323Id b) = (λ h. absurd (cc h), λ e. absurd (cc e))
alias_decides (H323Id a) (Digits b) = (λ h. absurd (cc h), λ e. absurd (cc e))

-- two tests that are true in the same cases are equal
together : (a b : Bool) → (a ≡ true → b ≡ true) → (b ≡ true → a ≡ true) → a ≡ b
together true b to back = sym (to refl)
together false true to back = absurd (cc (back refl))
together false false to back = refl

-- a test that decides equality is an equivalence
equivalence : {A : Type 0} (test : A → A → Bool) → ((a b : A) → Decides (test a b) (a ≡ b))
    → IsEquivalence test
equivalence {A} test decides = record {
  refl = λ x. (decides x x).1 refl;
  symm = λ x y. together (test x y) (test y x)
      (λ e. (decides y x).1 (sym ((decides x y).0 e)))
      (λ e. (decides x y).1 (sym ((decides y x).0 e)));
  congr = λ x y z e. ap (λ (w : A). test w z) ((decides x y).0 e);
}

pub aliases_equivalence : IsEquivalence (pointwise same_alias)
aliases_equivalence = lists_equiv (equivalence same_alias alias_decides)

pub aliases_partial_equivalence : IsPartialEquivalence (pointwise same_alias)
aliases_partial_equivalence = partial_equiv_from_equiv aliases_equivalence

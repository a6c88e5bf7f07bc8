-- New rings, one after another.
use Rattle.std.proofs.Common.{◌≡◌, ◌⊎◌, inl, inr, sym, ◌∙◌, ap, arith, ℕ, List, [], ◌∷◌, ◌++◌}
use Rattle.std.proofs.Common.{length, Some, slice_get, get_or}
use Rattle.std.proofs.lemmas.List.{get_or_append_left, get_or_push, length-append}
use Rattle.std.proofs.lemmas.Option.{slice_get_within, slice_get_cases}
use Rattle.std.proofs.lemmas.Option.{slice_get-get_or, get_or_from_slice_get}
use Rattle.reply_queues.specs.declared.outlet.Outlet.{Outlet}
use Rattle.reply_queues.specs.declared.inlet.Inlet.{Inlet}
use Rattle.reply_queues.specs.Rings.{IsNewRing, EachIsNewRing}

-- an item stands at this place of the list, or behind it, where it is the last one
abbrev IsAtOrLast : {T : Type 0} → List T → T → T → ℕ → Type 0
IsAtOrLast items last item k =
    (slice_get items k ≡ Some item) ⊎ ((k ≡ length items) × (item ≡ last))

-- in a list that got one item more stands what stood in it, or that item
slice_get-push : {T : Type 0} (items : List T) (last item : T) (k : ℕ)
    → slice_get (items ++ last ∷ []) k ≡ Some item → IsAtOrLast items last item k
slice_get-push items last item k at =
    let longer = items ++ last ∷ [] in
    let there : get_or longer k item ≡ item = get_or_from_slice_get longer k item item at in
    let within = slice_get_within longer k item at in
    let one_more = length-append items (last ∷ []) in
    elim (slice_get_cases items k).1 [
      | inl before ↦
          let same = get_or_append_left items (last ∷ []) item k before.1 in
          inl (slice_get-get_or items k item before.1 ∙ ap Some (sym same ∙ there))
      | inr behind ↦
          let at_end : k ≡ length items = omega (arith, within, behind.0, one_more) in
          inr (at_end, sym there ∙ get_or_push items last item k (sym at_end))
    ]

module _ (capacity : ℕ) (outlets : List Outlet) (inlets : List Inlet) where
  one_of : (outlet o : Outlet) (inlet i : Inlet) (k : ℕ) → length outlets ≡ length inlets
      → EachIsNewRing capacity outlets inlets → IsNewRing capacity outlet inlet
      → IsAtOrLast outlets outlet o k → IsAtOrLast inlets inlet i k → IsNewRing capacity o i
  one_of outlet o inlet i k same all one (inl a) (inl b) = all k o i a b
  one_of outlet o inlet i k same all one (inl a) (inr b) =
      absurd (omega (arith, slice_get_within outlets k o a, b.0, same))
  one_of outlet o inlet i k same all one (inr a) (inl b) =
      absurd (omega (arith, slice_get_within inlets k i b, a.0, same))
  one_of outlet o inlet i k same all one (inr a) (inr b) = rw (a.1, b.1) one

  -- one new ring more, at the end
  pub EachIsNewRing-push : (outlet : Outlet) (inlet : Inlet) → length outlets ≡ length inlets
      → EachIsNewRing capacity outlets inlets → IsNewRing capacity outlet inlet
      → EachIsNewRing capacity (outlets ++ outlet ∷ []) (inlets ++ inlet ∷ [])
  EachIsNewRing-push outlet inlet same all one k o i at_o at_i =
      let out = slice_get-push outlets outlet o k at_o in
      one_of outlet o inlet i k same all one out (slice_get-push inlets inlet i k at_i)

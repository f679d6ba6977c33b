-- If each of kept has one of others, and none of others serves two of kept, then kept is no longer than others. Assumes nothing.
use Rattle.std.proofs.Common.{◌≡◌, suc, ◌≤◌, ◌⊎◌, List, [], ◌∷◌, length, sym, refl, ap, ◌∙◌, subst, inl, inr, ⊎_elim, arith}
use Rattle.frontier.specs.Lists.{In, Pairwise}
use Rattle.frontier.proofs.Members.{pairwise_weaker}

module _ {X : Type 0} where
  -- xs with the element that stands at this place taken out
  abbrev taken_out : (x : X) (xs : List X) → In x xs → List X
  taken_out x [] h = []
  taken_out x (y ∷ ys) (inl e) = ys
  taken_out x (y ∷ ys) (inr h) = y ∷ taken_out x ys h

  one_less : (x : X) (xs : List X) (h : In x xs) → length xs ≡ suc (length (taken_out x xs h))
  one_less x [] h = absurd h
  one_less x (y ∷ ys) (inl e) = refl
  one_less x (y ∷ ys) (inr h) = ap suc (one_less x ys h)

  others_stay : (x z : X) (xs : List X) (h : In x xs) → In z xs → (x ≡ z) ⊎ In z (taken_out x xs h)
  others_stay x z [] h i = absurd h
  others_stay x z (y ∷ ys) (inl e) (inl f) = inl (sym e ∙ f)
  others_stay x z (y ∷ ys) (inl e) (inr i) = inr i
  others_stay x z (y ∷ ys) (inr h) (inl f) = inr (inl f)
  others_stay x z (y ∷ ys) (inr h) (inr i) = ⊎_elim inl (λ j. inr (inr j)) (others_stay x z ys h i)

  none_new : (x z : X) (xs : List X) (h : In x xs) → In z (taken_out x xs h) → In z xs
  none_new x z [] h i = absurd h
  none_new x z (y ∷ ys) (inl e) i = inr i
  none_new x z (y ∷ ys) (inr h) (inl f) = inl f
  none_new x z (y ∷ ys) (inr h) (inr i) = inr (none_new x z ys h i)

  pub pigeonhole : (serves : X → X → Type 0) (kept others : List X)
      → ((x : X) → In x kept → (y : X) × In y others × serves y x)
      → Pairwise (λ x z. (y : X) → In y others → serves y x → serves y z → ⊥) kept
      → length kept ≤ length others
  pigeonhole serves [] others each alone = omega arith
  pigeonhole serves (x ∷ xs) others each alone =
      let own = each x (inl refl) in
      let rest = taken_out own.0 others own.1 in
      let less = one_less own.0 others own.1 in
      let served : (z : X) → In z xs → (y : X) × In y rest × serves y z = λ z h.
      let by = each z (inr h) in
      ⊎_elim
      (λ (same : own.0 ≡ by.0). absurd (alone.0 z h own.0 own.1 own.2 (subst (λ y. serves y z) (sym same) by.2)))
      (λ (k : In by.0 rest). (by.0, k, by.2))
      (others_stay own.0 by.0 others own.1 by.1) in
      let still = pairwise_weaker (λ x z. (y : X) → In y others → serves y x → serves y z → ⊥) (λ x z. (y : X) → In y rest → serves y x → serves y z → ⊥) xs (λ x z f y i. f y (none_new own.0 y others own.1 i)) alone.1 in
      let shorter = pigeonhole serves xs rest served still in
      omega (arith, shorter, less)

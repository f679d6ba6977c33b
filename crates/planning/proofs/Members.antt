-- What the kept of a smallest cover say by their places. `In`, `Covered` and `Apart` are the container's words, of which only
-- the meaning is asked: a caller whose `In` and `Apart` compute gives the identity for each.
--   in-at, at_in         what is in a list stands at some place, and what stands at a place is in the list
--   covered-at           of an element that one of the kept covers, the place of that one
--   apart-lone           where of each kept and each later one neither covers the other, none covers one at another place
use Rattle.std.proofs.Common.{◌≡◌, ℕ, zero, suc, ◌<◌, ◌⊎◌, List, [], ◌∷◌, length, get_or, sym, refl, subst, inl, inr, arith}
use Rattle.planning.proofs.Smallest.{Lone}

module _ {X : Type 0} (In : X → List X → Type 0) (in-none : (x : X) → In x [] → ⊥) (in_cases : (x y : X) (ys : List X) → In x (y ∷ ys) → (y ≡ x) ⊎ In x ys) (in-more : (x y : X) (ys : List X) → (y ≡ x) ⊎ In x ys → In x (y ∷ ys)) where
  pub in-at : (x : X) (xs : List X) → In x xs → (k : ℕ) × (k < length xs) × ((d : X) → get_or xs k d ≡ x)
  in-at x [] h = absurd (in-none x h)
  in-at x (y ∷ ys) h =
      elim (in_cases x y ys h) [
        | inl e ↦ (0, omega arith, λ d. e)
        | inr t ↦ let (k, lt, e) = in-at x ys t in (suc k, omega arith, e)
      ]

  pub at_in : (xs : List X) (k : ℕ) (d : X) → k < length xs → In (get_or xs k d) xs
  at_in [] k d h = absurd (omega arith)
  at_in (x ∷ xs) zero d h = in-more x x xs (inl refl)
  at_in (x ∷ xs) (suc k) d h = in-more (get_or xs k d) x xs (inr (at_in xs k d (omega arith)))

  module _ (C : X → X → Type 0) where
    pub covered-at : (kept : List X) (x : X) → (y : X) × In y kept × C y x → (d : X) → (k : ℕ) × (k < length kept) × C (get_or kept k d) x
    covered-at kept x (y, h, c) d = let (k, lt, e) = in-at y kept h in (k, lt, subst (λ z. C z x) (sym (e d)) c)

    pub apart-lone : (Apart : List X → Type 0) → ((x : X) (xs : List X) → Apart (x ∷ xs) → ((y : X) → In y xs → (C x y → ⊥) × (C y x → ⊥)) × Apart xs) → (xs : List X) → Apart xs → Lone C xs
    apart-lone Apart parts [] a i j d hi hj n c = omega arith
    apart-lone Apart parts (x ∷ xs) a zero zero d hi hj n c = n refl
    apart-lone Apart parts (x ∷ xs) a zero (suc j) d hi hj n c = ((parts x xs a).0 (get_or xs j d) (at_in xs j d (omega arith))).0 c
    apart-lone Apart parts (x ∷ xs) a (suc i) zero d hi hj n c = ((parts x xs a).0 (get_or xs i d) (at_in xs i d (omega arith))).1 c
    apart-lone Apart parts (x ∷ xs) a (suc i) (suc j) d hi hj n c = apart-lone Apart parts xs (parts x xs a).1 i j d (omega arith) (omega arith) (λ e. n (omega arith)) c

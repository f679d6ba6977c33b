-- What is left of a list without those that x covers. Assumes nothing.
use Rattle.std.proofs.Common.{◌≡◌, ◌≤◌, ◌⊎◌, List, [], ◌∷◌, ◌++◌, length, sym, refl, ap, ◌∙◌, subst, inl, inr, ⊎_elim, arith}
use Rattle.frontier.specs.Lists.{In, Subsequence, Pairwise}
use Rattle.frontier.specs.Offer.{Without}
use Rattle.frontier.proofs.Members.{subsequence_later}

module _ {X : Type 0} (covers : X → X → Type 0) (x : X) where
  -- each one stays, or x covers it
  pub stays_or_covered : (kept left : List X) → Without covers x kept left → (y : X) → In y kept → In y left ⊎ covers x y
  stays_or_covered [] left w y h = absurd h
  stays_or_covered (z ∷ zs) left (inl w) y (inl e) = inr (subst (covers x) e w.0)
  stays_or_covered (z ∷ zs) left (inl w) y (inr h) = stays_or_covered zs left w.1 y h
  stays_or_covered (z ∷ zs) left (inr w) y (inl e) = inl (subst (In y) (sym w.1.1) (inl e))
  stays_or_covered (z ∷ zs) left (inr w) y (inr h) =
      ⊎_elim (λ i. inl (subst (In y) (sym w.1.1) (inr i))) inr (stays_or_covered zs w.1.0 w.1.2 y h)

  pub not_covered : (kept left : List X) → Without covers x kept left → (y : X) → In y left → covers x y → ⊥
  not_covered [] left w y h a = absurd (subst (In y) w h)
  not_covered (z ∷ zs) left (inl w) y h a = not_covered zs left w.1 y h a
  not_covered (z ∷ zs) left (inr w) y h a =
      ⊎_elim (λ (e : z ≡ y). w.0 (subst (covers x) (sym e) a)) (λ i. not_covered zs w.1.0 w.1.2 y i a) (subst (In y) w.1.1 h)

  pub left_in : (kept left : List X) → Without covers x kept left → (y : X) → In y left → In y kept
  left_in [] left w y h = subst (In y) w h
  left_in (z ∷ zs) left (inl w) y h = inr (left_in zs left w.1 y h)
  left_in (z ∷ zs) left (inr w) y h =
      ⊎_elim inl (λ i. inr (left_in zs w.1.0 w.1.2 y i)) (subst (In y) w.1.1 h)

  pub left-pairwise : (R : X → X → Type 0) (kept left : List X) → Without covers x kept left → Pairwise R kept → Pairwise R left
  left-pairwise R [] left w p = subst (Pairwise R) (sym w) tt
  left-pairwise R (z ∷ zs) left (inl w) p = left-pairwise R zs left w.1 p.1
  left-pairwise R (z ∷ zs) left (inr w) p =
      subst (Pairwise R) (sym w.1.1)
      (λ y h. p.0 y (left_in zs w.1.0 w.1.2 y h), left-pairwise R zs w.1.0 w.1.2 p.1)

  -- left stands in order in whatever kept stands in
  pub left-subsequence : (kept left seen : List X) → Without covers x kept left → Subsequence kept seen → Subsequence left seen
  left-subsequence [] left seen w s = subst (λ l. Subsequence l seen) (sym w) tt
  left-subsequence (z ∷ zs) left [] w s = absurd s
  left-subsequence (z ∷ zs) left (b ∷ seen) w (inr s) = subsequence_later left b seen (left-subsequence (z ∷ zs) left seen w s)
  left-subsequence (z ∷ zs) left (b ∷ seen) (inl w) (inl s) = subsequence_later left b seen (left-subsequence zs left seen w.1 s.1)
  left-subsequence (z ∷ zs) left (b ∷ seen) (inr w) (inl s) =
      subst (λ l. Subsequence l (b ∷ seen)) (sym w.1.1) (inl (s.0, left-subsequence zs w.1.0 seen w.1.2 s.1))

  -- one more that x covers
  pub without_leaves : (kept left : List X) (y : X) → Without covers x kept left → covers x y → Without covers x (kept ++ (y ∷ [])) left
  without_leaves [] left y w a = inl (a, w)
  without_leaves (z ∷ zs) left y (inl w) a = inl (w.0, without_leaves zs left y w.1 a)
  without_leaves (z ∷ zs) left y (inr w) a = inr (w.0, (w.1.0, w.1.1, without_leaves zs w.1.0 y w.1.2 a))

  -- one more that x does not cover
  pub without_stays : (kept left : List X) (y : X) → Without covers x kept left → (covers x y → ⊥)
      → Without covers x (kept ++ (y ∷ [])) (left ++ (y ∷ []))
  without_stays [] left y w n = inr (n, ([], ap (λ l. l ++ (y ∷ [])) w, refl))
  without_stays (z ∷ zs) left y (inl w) n = inl (w.0, without_stays zs left y w.1 n)
  without_stays (z ∷ zs) left y (inr w) n =
      inr (w.0, (w.1.0 ++ (y ∷ []), ap (λ l. l ++ (y ∷ [])) w.1.1, without_stays zs w.1.0 y w.1.2 n))

  -- there is one such list
  pub without_unique : (kept left other : List X) → Without covers x kept left → Without covers x kept other → left ≡ other
  without_unique [] left other w v = w ∙ sym v
  without_unique (z ∷ zs) left other (inl w) (inl v) = without_unique zs left other w.1 v.1
  without_unique (z ∷ zs) left other (inl w) (inr v) = absurd (v.0 w.0)
  without_unique (z ∷ zs) left other (inr w) (inl v) = absurd (w.0 v.0)
  without_unique (z ∷ zs) left other (inr w) (inr v) =
      w.1.1 ∙ ap (λ l. z ∷ l) (without_unique zs w.1.0 v.1.0 w.1.2 v.1.2) ∙ sym v.1.1

  pub without_shorter : (kept left : List X) → Without covers x kept left → length left ≤ length kept
  without_shorter [] left w = omega (arith, ap length w)
  without_shorter (z ∷ zs) left (inl w) = omega (arith, without_shorter zs left w.1)
  without_shorter (z ∷ zs) left (inr w) = omega (arith, ap length w.1.1, without_shorter zs w.1.0 w.1.2)

-- Lemmas on the words of specs/Lists.antt. Assumes nothing.
use Rattle.std.proofs.Common.{◌≡◌, ◌⊎◌, ℕ, zero, suc, ◌<◌, List, [], ◌∷◌, ◌++◌, length, sym, refl, ◌∙◌, subst, inl, inr, ⊎_elim, arith}
use Rattle.std.specs.List.{All, HoldsAt}
use Rattle.std.proofs.lemmas.List.Elements.{All-head, All-tail}
use Rattle.frontier.specs.Lists.{In, Subsequence, Pairwise}

module _ {X : Type 0} where
  pub in_left : (x : X) (xs ys : List X) → In x xs → In x (xs ++ ys)
  in_left x [] ys h = absurd h
  in_left x (z ∷ zs) ys (inl e) = inl e
  in_left x (z ∷ zs) ys (inr h) = inr (in_left x zs ys h)

  pub in_right : (x : X) (xs ys : List X) → In x ys → In x (xs ++ ys)
  in_right x [] ys h = h
  in_right x (z ∷ zs) ys h = inr (in_right x zs ys h)

  pub in_cases : (x : X) (xs ys : List X) → In x (xs ++ ys) → In x xs ⊎ In x ys
  in_cases x [] ys h = inr h
  in_cases x (z ∷ zs) ys (inl e) = inl (inl e)
  in_cases x (z ∷ zs) ys (inr h) = ⊎_elim (λ a. inl (inr a)) inr (in_cases x zs ys h)

  pub in-push_cases : (x y : X) (xs : List X) → In x (xs ++ (y ∷ [])) → In x xs ⊎ (y ≡ x)
  in-push_cases x y xs h = ⊎_elim inl (⊎_elim inr (λ none. absurd none)) (in_cases x xs (y ∷ []) h)

  -- what holds at some index holds of one of them, and what holds at each holds of each
  pub some_in : (P : X → Type 0) (xs : List X) (k : ℕ) → k < length xs → HoldsAt P xs k → (y : X) × In y xs × P y
  some_in P [] k within here = absurd (omega arith)
  some_in P (x ∷ xs) zero within here = (x, inl refl, here x)
  some_in P (x ∷ xs) (suc k) within here =
      let one = some_in P xs k (omega arith) here in
      (one.0, inr one.1, one.2)

  pub all_in : (P : X → Type 0) (xs : List X) (y : X) → All P xs → In y xs → P y
  all_in P [] y all h = absurd h
  all_in P (x ∷ xs) y all (inl e) = subst P e (All-head P x xs all)
  all_in P (x ∷ xs) y all (inr h) = all_in P xs y (All-tail P x xs all) h

  pub subsequence-in : (x : X) (xs ys : List X) → Subsequence xs ys → In x xs → In x ys
  subsequence-in x [] ys s h = absurd h
  subsequence-in x (a ∷ xs) [] s h = absurd s
  subsequence-in x (a ∷ xs) (b ∷ ys) (inl s) (inl e) = inl (sym s.0 ∙ e)
  subsequence-in x (a ∷ xs) (b ∷ ys) (inl s) (inr h) = inr (subsequence-in x xs ys s.1 h)
  subsequence-in x (a ∷ xs) (b ∷ ys) (inr s) h = inr (subsequence-in x (a ∷ xs) ys s h)

  pub subsequence_more : (xs ys zs : List X) → Subsequence xs ys → Subsequence xs (ys ++ zs)
  subsequence_more [] ys zs s = tt
  subsequence_more (a ∷ xs) [] zs s = absurd s
  subsequence_more (a ∷ xs) (b ∷ ys) zs (inl s) = inl (s.0, subsequence_more xs ys zs s.1)
  subsequence_more (a ∷ xs) (b ∷ ys) zs (inr s) = inr (subsequence_more (a ∷ xs) ys zs s)

  pub subsequence_later : (xs : List X) (y : X) (ys : List X) → Subsequence xs ys → Subsequence xs (y ∷ ys)
  subsequence_later [] y ys s = tt
  subsequence_later (a ∷ xs) y ys s = inr s

  last : (x : X) (ys : List X) → Subsequence (x ∷ []) (ys ++ (x ∷ []))
  last x [] = inl (refl, tt)
  last x (y ∷ ys) = inr (last x ys)

  pub subsequence-push : (xs ys : List X) (x : X) → Subsequence xs ys → Subsequence (xs ++ (x ∷ [])) (ys ++ (x ∷ []))
  subsequence-push [] ys x s = last x ys
  subsequence-push (a ∷ xs) [] x s = absurd s
  subsequence-push (a ∷ xs) (b ∷ ys) x (inl s) = inl (s.0, subsequence-push xs ys x s.1)
  subsequence-push (a ∷ xs) (b ∷ ys) x (inr s) = inr (subsequence-push (a ∷ xs) ys x s)

  pub pairwise_weaker : (R S : X → X → Type 0) (xs : List X) → ((x y : X) → R x y → S x y) → Pairwise R xs → Pairwise S xs
  pairwise_weaker R S [] f p = tt
  pairwise_weaker R S (x ∷ xs) f p = (λ y h. f x y (p.0 y h), pairwise_weaker R S xs f p.1)

  pub pairwise-push : (R : X → X → Type 0) (xs : List X) (x : X) → Pairwise R xs → ((y : X) → In y xs → R y x) → Pairwise R (xs ++ (x ∷ []))
  pairwise-push R [] x p f = (λ y h. absurd h, tt)
  pairwise-push R (z ∷ zs) x p f = (
    λ y h. ⊎_elim (p.0 y) (λ (e : x ≡ y). subst (R z) e (f z (inl refl))) (in-push_cases y x zs h),
    pairwise-push R zs x p.1 (λ y h. f y (inr h)),
  )

  -- what holds pairwise at each of others holds pairwise at all of them at once
  pub pairwise-each : (Q : X → X → X → Type 0) (others xs : List X)
      → ((y : X) → In y others → Pairwise (Q y) xs)
      → Pairwise (λ x z. (y : X) → In y others → Q y x z) xs
  pairwise-each Q others [] f = tt
  pairwise-each Q others (x ∷ xs) f = (λ z h y i. (f y i).0 z h, pairwise-each Q others xs (λ y i. (f y i).1))

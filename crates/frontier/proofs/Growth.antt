-- An offer makes a smallest cover of what was seen into one of that and the offered element. Assumes nothing.
use Rattle.std.proofs.Common.{◌≡◌, List, [], ◌∷◌, ◌++◌, sym, refl, ap, ◌∙◌, subst, inl, inr, ⊎_elim, append_assoc}
use Rattle.frontier.specs.Lists.{In}
use Rattle.frontier.specs.Cover.{Preorder, Covered, First, SmallestCover}
use Rattle.frontier.specs.Offer.{Without, Offered}
use Rattle.frontier.proofs.Members.{in_left, in_right, in-push_cases, subsequence_more, subsequence-push, pairwise-push}
use Rattle.frontier.proofs.Smallest.{smallest_cover}
use Rattle.frontier.proofs.Lefts.{stays_or_covered, not_covered, left_in, left-pairwise, left-subsequence}

module _ {X : Type 0} {covers : X → X → Type 0} (order : Preorder covers) where
  first_more : (seen : List X) (x y : X) → First covers seen y → First covers (seen ++ (x ∷ [])) y
  first_more seen x y f =
      (f.0, f.1 ++ (x ∷ []), ap (λ l. l ++ (x ∷ [])) f.2 ∙ append_assoc f.0 (y ∷ f.1) (x ∷ []), f.3)

  covered_stays : (kept seen : List X) (x : X) → SmallestCover covers kept seen → Covered covers kept x
      → SmallestCover covers kept (seen ++ (x ∷ []))
  covered_stays kept seen x s by = smallest_cover covers order kept (seen ++ (x ∷ []))
      (subsequence_more kept seen (x ∷ []) s.arrival)
      (λ y h. ⊎_elim (s.cover y) (λ (e : x ≡ y). subst (Covered covers kept) e by) (in-push_cases y x seen h))
      s.apart
      (λ y h. first_more seen x y (s.first y h))

  put_last : (kept seen left : List X) (x : X) → SmallestCover covers kept seen → (Covered covers kept x → ⊥) → Without covers x kept left
      → SmallestCover covers (left ++ (x ∷ [])) (seen ++ (x ∷ []))
  put_last kept seen left x s new w =
      let last : In x (left ++ (x ∷ [])) = in_right x left (x ∷ []) (inl refl) in
      let unseen : Covered covers seen x → ⊥ = λ by.
      let over = s.cover by.0 by.1 in
      new (over.0, over.1, order.transitive over.0 by.0 x over.2 by.2) in
      smallest_cover covers order (left ++ (x ∷ [])) (seen ++ (x ∷ []))
      (subsequence-push left seen x (left-subsequence covers x kept left seen w s.arrival))
      (λ y h. ⊎_elim
      (λ (seen-y : In y seen).
      let by = s.cover y seen-y in
      ⊎_elim
      (λ (stays : In by.0 left). (by.0, in_left by.0 left (x ∷ []) stays, by.2))
      (λ (over : covers x by.0). (x, last, order.transitive x by.0 y over by.2))
      (stays_or_covered covers x kept left w by.0 by.1))
      (λ (e : x ≡ y). (x, last, subst (covers x) e (order.reflexive x)))
      (in-push_cases y x seen h))
      (pairwise-push _ left x
      (left-pairwise covers x _ kept left w s.apart)
      (λ y h. (λ a. new (y, left_in covers x kept left w y h, a), not_covered covers x kept left w y h)))
      (λ y h. ⊎_elim
      (λ (stays : In y left). first_more seen x y (s.first y (left_in covers x kept left w y stays)))
      (λ (e : x ≡ y). subst (First covers (seen ++ (x ∷ []))) e (seen, [], refl, unseen))
      (in-push_cases y x left h))

  pub offered_smallest : (kept seen after : List X) (x : X) → Offered covers kept x after → SmallestCover covers kept seen
      → SmallestCover covers after (seen ++ (x ∷ []))
  offered_smallest kept seen after x (inl o) s =
      subst (λ l. SmallestCover covers l (seen ++ (x ∷ []))) (sym o.1) (covered_stays kept seen x s o.0)
  offered_smallest kept seen after x (inr o) s =
      subst (λ l. SmallestCover covers l (seen ++ (x ∷ []))) (sym o.1.2) (put_last kept seen o.1.0 x s o.0 o.1.1)

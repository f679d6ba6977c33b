-- One turn of the compaction. Assumes nothing.
use Rattle.std.proofs.Common.{◌≡◌, ℕ, ◌+◌, ◌<◌, ◌≤◌, List, [], ◌∷◌, ◌++◌, length, get_or, take, drop, set, sym, refl, ap, ◌∙◌, subst, arith}
use Rattle.std.proofs.lemmas.List.{length-set, take_more, take_more_set, take-set-le, drop_more, drop-set-lt, set-get_or}
use Rattle.frontier.specs.Offer.{Without}
use Rattle.frontier.proofs.Lefts.{without_leaves, without_stays}

module _ {X : Type 0} (covers : X → X → Type 0) (x : X) where
  -- ys began as xs. What x does not cover of the first i of xs stands in the first k places of ys,
  -- from i on ys is as it was, and it is as it was everywhere if none has left
  pub record Compacting (xs ys : List X) (k i : ℕ) : Type 0 where
    pub front : Without covers x (take i xs) (take k ys)
    pub rest : drop i ys ≡ drop i xs
    pub behind : k ≤ i
    pub within : i ≤ length xs
    pub long : length ys ≡ length xs
    pub same : k ≡ i → ys ≡ xs

  pub compacting_from : (xs : List X) (i : ℕ) → i ≤ length xs → Without covers x (take i xs) (take i xs) → Compacting xs xs i i
  compacting_from xs i within w = record { front = w; rest = refl; behind = omega arith; within = within; long = refl; same = λ _. refl }

  module _ {xs ys : List X} {k i : ℕ} where
    both : (y : X) → Compacting xs ys k i → i < length ys → y ≡ get_or ys i y → y ∷ drop (i + 1) ys ≡ get_or xs i y ∷ drop (i + 1) xs
    both y h lt is = ap (λ z. z ∷ drop (i + 1) ys) is ∙ sym (drop_more ys i y lt) ∙ h.rest ∙ drop_more xs i y (omega arith)

    next : (y : X) → Compacting xs ys k i → i < length ys → y ≡ get_or ys i y → take (i + 1) xs ≡ take i xs ++ (y ∷ [])
    next y h lt is = take_more xs i y (omega arith) ∙ ap (λ z. take i xs ++ (z ∷ [])) (sym (ap (λ l. get_or l 0 y) (both y h lt is)))

    pub compacting_leaves : (y : X) → Compacting xs ys k i → i < length ys → y ≡ get_or ys i y → covers x y → Compacting xs (set ys k y) k (i + 1)
    compacting_leaves y h lt is a =
        let left = without_leaves covers x (take i xs) (take k ys) y h.front a in
        record {
          front = subst (λ l. Without covers x l (take k (set ys k y))) (sym (next y h lt is))
              (subst (Without covers x (take i xs ++ (y ∷ []))) (sym (take-set-le k ys k y (omega arith))) left);
          rest = drop-set-lt (i + 1) ys k y (omega arith) ∙ ap (drop 1) (both y h lt is);
          behind = omega arith;
          within = omega arith;
          long = length-set ys k y ∙ h.long;
          same = λ e. absurd (omega arith);
        }

    pub compacting_stays : (y : X) → Compacting xs ys k i → i < length ys → y ≡ get_or ys i y → (covers x y → ⊥) → Compacting xs (set ys k y) (k + 1) (i + 1)
    compacting_stays y h lt is n =
        let left = without_stays covers x (take i xs) (take k ys) y h.front n in
        record {
          front = subst (λ l. Without covers x l (take (k + 1) (set ys k y))) (sym (next y h lt is))
              (subst (Without covers x (take i xs ++ (y ∷ []))) (sym (take_more_set ys k y (omega arith))) left);
          rest = drop-set-lt (i + 1) ys k y (omega arith) ∙ ap (drop 1) (both y h lt is);
          behind = omega arith;
          within = omega arith;
          long = length-set ys k y ∙ h.long;
          same = λ e.
              let at : k ≡ i = omega arith in
              ap (λ z. set ys k z) (is ∙ ap (λ j. get_or ys j y) (sym at)) ∙ set-get_or ys k y ∙ h.same at;
        }

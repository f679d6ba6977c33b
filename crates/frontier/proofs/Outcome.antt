-- What an offer comes to that no kept element covers: of xs the first `count` are kept, and the compaction
-- made them ys, with those that stay in the first `left` places. Assumes nothing.
use Rattle.std.proofs.Common.{◌≡◌, ℕ, ◌+◌, ◌-◌, ◌<◌, ◌≤◌, min, max, List, [], ◌∷◌, ◌++◌, length, take, drop, set, sym, refl, ap, ◌∙◌, inr, arith}
use Rattle.std.proofs.lemmas.List.{length-set, length-take, length-drop, length-append, length-take-le, length_push, take_more_set, take-append-le, drop-drop, drop-set-lt}
use Rattle.frontier.specs.Cover.{Covered}
use Rattle.frontier.specs.Offer.{Without, Offered}
use Rattle.frontier.specs.Places.{SamePast}

module _ {X : Type 0} where
  -- what two lists share from n on they share from any later place on
  pub drop_later : (xs ys : List X) (n m : ℕ) → n ≤ m → drop n ys ≡ drop n xs → drop m ys ≡ drop m xs
  drop_later xs ys n m le e =
      let split : m ≡ n + (m - n) = omega arith in
      ap (λ k. drop k ys) split ∙ sym (drop-drop (m - n) n ys) ∙ ap (drop (m - n)) e ∙ drop-drop (m - n) n xs ∙ ap (λ k. drop k xs) (sym split)

  -- beyond what was kept and what is kept now nothing changes
  pub same_beyond : (x : X) (xs : List X) (count n : ℕ) → n ≡ min count (length xs) → (ys : List X) (left : ℕ) → left ≤ n → left < length ys → length ys ≡ length xs → drop n ys ≡ drop n xs
      → SamePast (take count xs) (take (left + 1) (set ys left x)) xs (set ys left x)
  same_beyond x xs count n is ys left fewer room long beyond =
      let m = max (length (take count xs)) (length (take (left + 1) (set ys left x))) in
      let before = length-take count xs in
      let after = length-take-le (left + 1) (set ys left x) (simp length-set (omega arith)) in
      drop-set-lt m ys left x (omega arith) ∙ drop_later xs ys n m (omega arith) beyond

-- x is put behind those that are left, whatever stands further on
pub offered-put : {X : Type 0} (covers : X → X → Type 0) (x : X) (xs : List X) (count : ℕ) (ys : List X) (left : ℕ)
    → (Covered covers (take count xs) x → ⊥) → Without covers x (take count xs) (take left ys) → left < length ys → Offered covers (take count xs) x (take (left + 1) (set ys left x))
offered-put covers x xs count ys left new w room = inr (new, (take left ys, w, take_more_set ys left x room))

-- where all stay and fill the places, x would be put behind them, and does not fit
pub offered-over : {X : Type 0} (covers : X → X → Type 0) (x : X) (xs : List X) (count : ℕ) (ys : List X) (left : ℕ)
    → (Covered covers (take count xs) x → ⊥) → Without covers x (take count xs) (take left ys) → left ≡ length ys → length ys ≡ length xs
    → (after : List X) × Offered covers (take count xs) x after × (length xs < length after)
offered-over covers x xs count ys left new w full long =
    (take left ys ++ (x ∷ []), inr (new, (take left ys, w, refl)), omega (arith, length_push (take left ys) x, length-take-le left ys (omega arith)))

module _ {X : Type 0} (covers : X → X → Type 0) (x : X) (xs : List X) (count : ℕ) (ys : List X) (left : ℕ)
    (new : Covered covers (take count xs) x → ⊥) (w : Without covers x (take count xs) (take left ys)) (fewer : left ≤ length (take count xs)) (room : length ys ≡ length (take count xs)) where
  -- x is put last
  pub offered-last : (left ≡ length (ys ++ drop count xs) → ⊥) → Offered covers (take count xs) x (take (left + 1) (set (ys ++ drop count xs) left x))
  offered-last free =
      let within : left ≤ length ys = omega arith in
      let last = take_more_set (ys ++ drop count xs) left x (omega (arith, length-append ys (drop count xs))) in
      inr (new, (take left ys, w, last ∙ ap (λ l. l ++ (x ∷ [])) (take-append-le left ys (drop count xs) within)))

  -- x would be put last, and does not fit
  pub offered_long : left ≡ length (ys ++ drop count xs) → (after : List X) × Offered covers (take count xs) x after × (length xs < length after)
  offered_long full =
      let longer : length xs < length (take left ys ++ (x ∷ [])) =
      omega (arith, length_push (take left ys) x, length-take-le left ys (omega arith), length-append ys (drop count xs), length-take count xs, length-drop count xs) in
      (take left ys ++ (x ∷ []), inr (new, (take left ys, w, refl)), longer)

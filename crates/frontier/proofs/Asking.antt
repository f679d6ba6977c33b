-- What it tells to ask one kept element after another. Assumes nothing.
use Rattle.std.proofs.Common.{◌≡◌, ℕ, zero, suc, ◌<◌, ◌≤◌, Bool, true, false, Option, Some, None, List, [], ◌∷◌, length, take, Decides, MatchBool, MatchOption, refl, inr, arith}
use Rattle.std.specs.List.{HoldsAt, AllWithin}
use Rattle.std.specs.Option.{unwrap_or}
use Rattle.std.proofs.lemmas.List.Elements.{All-from_all_within}
use Rattle.frontier.specs.Cover.{Covered}
use Rattle.frontier.specs.Offer.{Without}
use Rattle.frontier.proofs.Members.{some_in, all_in}

module _ {X : Type 0} (covers : X → X → Type 0) (x : X) where
  -- one covers x, or none does
  pub covered_decided : (xs : List X) (r : Bool)
      → MatchBool r ((k : ℕ) × (k < length xs) × HoldsAt (λ y. covers y x) xs k) (AllWithin (λ y. covers y x → ⊥) xs 0 (length xs))
      → Decides r (Covered covers xs x)
  covered_decided xs true h = (λ _. some_in (λ y. covers y x) xs h.0 h.1 h.2, λ _. refl)
  covered_decided xs false h =
      (λ e. absurd cc, λ by. absurd (all_in (λ y. covers y x → ⊥) xs by.0 (All-from_all_within (λ y. covers y x → ⊥) xs h) by.1 by.2))

  -- what stands before the first that x covers stays
  stays : (xs : List X) (n : ℕ) → n ≤ length xs → AllWithin (λ y. covers x y → ⊥) xs 0 n → Without covers x (take n xs) (take n xs)
  stays xs zero within none = refl
  stays [] (suc n) within none = absurd (omega arith)
  stays (y ∷ ys) (suc n) within none =
      inr (none 0 y (omega arith) (omega arith), (take n ys, refl, stays ys n (omega arith) (λ k d a b. none (suc k) d (omega arith) (omega arith))))

  pub staying : (xs : List X) (r : Option ℕ) (n : ℕ) → n ≡ unwrap_or r (length xs)
      → MatchOption r (AllWithin (λ y. covers x y → ⊥) xs 0 (length xs)) (λ i. (i < length xs) × HoldsAt (covers x) xs i × AllWithin (λ y. covers x y → ⊥) xs 0 i)
      → (n ≤ length xs) × Without covers x (take n xs) (take n xs)
  staying xs None n is none = rw is (omega arith, stays xs (length xs) (omega arith) none)
  staying xs (Some i) n is first = rw is (omega (arith, first.0), stays xs i (omega (arith, first.0)) first.2)

-- Which elements a list has, and in what order. Assumes nothing.
--   In x xs             x is one of xs
--   Subsequence xs ys   xs is ys with some left out: the others stand in the same order
--   Pairwise R xs       R holds of each of xs and each one that stands after it
use Rattle.std.specs.Prelude.{◌≡◌, ◌⊎◌, List, [], ◌∷◌}

abbrev pub In : {X : Type 0} → X → List X → Type 0
In x [] = ⊥
In x (y ∷ ys) = (y ≡ x) ⊎ In x ys

abbrev pub Subsequence : {X : Type 0} → List X → List X → Type 0
Subsequence [] ys = Unit {0}
Subsequence (x ∷ xs) [] = ⊥
Subsequence (x ∷ xs) (y ∷ ys) = ((x ≡ y) × Subsequence xs ys) ⊎ Subsequence (x ∷ xs) ys

abbrev pub Pairwise : {X : Type 0} → (X → X → Type 0) → List X → Type 0
Pairwise R [] = Unit {0}
Pairwise {X} R (x ∷ xs) = ((y : X) → In y xs → R x y) × Pairwise R xs

-- What an offer does to the kept elements. Assumes nothing.
--   Without covers x kept left            left is kept without those that x covers, in the same order
--   Offered covers kept x after           after is what is kept once x has been offered to kept
--   LacksPlace covers places kept x why   what would be kept has more elements than there are places, which is refusal 11
use Rattle.std.specs.Prelude.{◌≡◌, ◌<◌, ◌⊎◌, List, [], ◌∷◌, ◌++◌, length}
use Rattle.frontier.specs.Cover.{Covered}
use Rattle.frontier.specs.Number.{number}
use Rattle.frontier.specs.declared.refusal.Refusal.{Refusal}

abbrev pub Without : {X : Type 0} → (X → X → Type 0) → X → List X → List X → Type 0
Without covers x [] left = left ≡ []
Without {X} covers x (y ∷ ys) left =
    (covers x y × Without covers x ys left)
    ⊎ ((covers x y → ⊥) × ((rest : List X) × (left ≡ y ∷ rest) × Without covers x ys rest))

-- where one of kept covers x all stays as it is; else those that x covers leave, and x is put last
abbrev pub Offered : {X : Type 0} → (X → X → Type 0) → List X → X → List X → Type 0
Offered {X} covers kept x after =
    (Covered covers kept x × (after ≡ kept))
    ⊎ ((Covered covers kept x → ⊥) × ((left : List X) × Without covers x kept left × (after ≡ left ++ (x ∷ []))))

abbrev pub LacksPlace : {X : Type 0} → (X → X → Type 0) → List X → List X → X → Refusal → Type 0
LacksPlace {X} covers places kept x why =
    (number why ≡ 11) × ((after : List X) × Offered covers kept x after × (length places < length after))

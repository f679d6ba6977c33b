-- A slice that a closure filled, each call of which gives the same value and leaves the closure as it was. Assumes nothing.
use Rattle.std.proofs.Common.{◌≡◌, List, [], ◌∷◌, length, replicate, refl, subst, ap₂}
use Rattle.std.specs.List.{FoldsTo}

pub filled : {F X : Type 0} (R : F → X → F → Type 0) (f : F) (v : X) → ((x : X) (g : F) → R f x g → (g ≡ f) × (x ≡ v)) → (xs : List X) (last : F) → FoldsTo R f xs last → xs ≡ replicate (length xs) v
filled R f v calls [] last e = refl
filled R f v calls (x ∷ xs) last (g, call, rest) =
    let (same, is) = calls x g call in
    ap₂ (λ y ys. y ∷ ys) is (filled R f v calls xs last (subst (λ h. FoldsTo R h xs last) same rest))

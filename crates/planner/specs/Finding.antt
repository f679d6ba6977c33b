-- The first of some labels that passes a test. Assumes nothing.
--   Found test labels count r    r is the first of the first `count` that passes, or nothing where none does
use Rattle.std.specs.Prelude.{◌≡◌, ℕ, ◌<◌, Bool, true, false, List, Some, None, Option, slice_index_or}

-- none of the first `count` passes
abbrev pub Fails : {X : Type 0} → (X → Bool) → List X → ℕ → Type 0
Fails {X} test xs count = (k : ℕ) (d : X) → k < count → test (slice_index_or xs k d) ≡ false

abbrev pub Found : {X : Type 0} → (X → Bool) → List X → ℕ → Option ℕ → Type 0
Found {X} test xs count (Some j) = (j < count) × ((d : X) → test (slice_index_or xs j d) ≡ true) × Fails test xs j
Found test xs count None = Fails test xs count

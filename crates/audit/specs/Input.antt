-- How the input is cut. Assumes nothing.
--   spaced b             b is white space: a tab, a line end, a form feed, a carriage return or a blank
--   inked b              b is not white space
--   Cut text line rest   line is what stands before the first line end of text, and rest what stands after it
use Rattle.std.specs.Prelude.{◌≡◌, ℕ, ◌<◌, Bool, not, ◌||◌, ◌⊎◌, List, [], ◌∷◌, ◌++◌, length, ◌==◌, ◌≢◌, slice_index}

abbrev pub spaced : ℕ → Bool
spaced b = b == 9 || b == 10 || b == 12 || b == 13 || b == 32

abbrev pub inked : ℕ → Bool
inked b = not (spaced b)

pub record Cut (text line rest : List ℕ) : Type 0 where
  pub unbroken : (k : ℕ) → k < length line → slice_index line k ≢ 10
  pub whole : (text ≡ line ++ 10 ∷ rest) ⊎ ((text ≡ line) × (rest ≡ []))

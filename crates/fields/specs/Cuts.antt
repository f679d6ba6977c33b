-- Bytes cut at a mark. Assumes nothing.
--   Lacks mark bytes               the mark does not stand among the bytes
--   Parted mark bytes front back   front is what stands before the first mark, and back what stands after it
--   FirstLine text line rest       line is what stands before the first line end, byte 10, and rest what stands after it; where no
--                                  line ends, line is all of the text
use Rattle.std.specs.Prelude.{◌≡◌, ℕ, ◌<◌, ◌⊎◌, List, [], ◌∷◌, ◌++◌, length, ◌≢◌, slice_index}

abbrev pub Lacks : ℕ → List ℕ → Type 0
Lacks mark bytes = (k : ℕ) → k < length bytes → slice_index bytes k ≢ mark

pub record Parted (mark : ℕ) (bytes front back : List ℕ) : Type 0 where
  pub unbroken : Lacks mark front
  pub whole : bytes ≡ front ++ mark ∷ back

pub record FirstLine (text line rest : List ℕ) : Type 0 where
  pub unbroken : Lacks 10 line
  pub whole : (text ≡ line ++ 10 ∷ rest) ⊎ ((text ≡ line) × (rest ≡ []))

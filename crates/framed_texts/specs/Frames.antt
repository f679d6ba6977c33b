-- Framed texts. Assumes nothing.
--   Framed stream text rest      the stream begins with the frame of the text, which has at most 9,999 bytes, and the rest stands after it
use Rattle.std.specs.Prelude.{◌≡◌, ℕ, ◌≤◌, List, ◌∷◌, ◌++◌, length, decimal}

pub record Framed (stream text rest : List ℕ) : Type 0 where
  pub few : length text ≤ 9999
  pub whole : stream ≡ decimal (length text) ++ 10 ∷ (text ++ 10 ∷ rest)

-- A schedule's letters as runs. Assumes nothing.
--   Differs x letters         the first of the letters, if there is one, is not x
--   RunsFrom q letters runs   the letters, from quarter q on, are these runs: each as long as it can be, and none empty
use Rattle.std.specs.Prelude.{◌≡◌, ℕ, ◌+◌, ◌<◌, List, [], ◌∷◌, ◌++◌, replicate}
use Rattle.replies.specs.declared.runs.Run.{Run}

abbrev pub Differs : ℕ → List ℕ → Type 0
Differs x [] = Unit {0}
Differs x (y ∷ letters) = y ≡ x → ⊥

abbrev pub RunsFrom : ℕ → List ℕ → List Run → Type 0
RunsFrom q letters [] = letters ≡ []
RunsFrom q letters (run ∷ runs) =
    (rest : List ℕ) × (run.first ≡ q) × (0 < run.count) × (letters ≡ replicate run.count run.letter ++ rest) × Differs run.letter rest × RunsFrom (q + run.count) rest runs

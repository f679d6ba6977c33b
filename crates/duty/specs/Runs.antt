-- How a run grows: by one a quarter up to its full length, and to 0 where it is broken. Assumes nothing.
use Rattle.std.specs.Prelude.{ℕ, ◌+◌, min, Bool, cond}

-- the run after one more quarter, which goes on with it or breaks it
abbrev pub next_run : ℕ → ℕ → Bool → ℕ
next_run full run unbroken = cond unbroken (min (run + 1) full) 0

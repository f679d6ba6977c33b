use Rattle.std.proofs.Common.{◌≡◌, ◌+◌, ◌-◌, List, ◌++◌, length, vec_items}
use Rattle.std.specs.Slice.Iter.{chunk_by_rest}
use Rattle.replies.specs.declared.runs.Run.{Run}
use Rattle.replies.specs.Schedules.{RunsFrom}
use Rattle.replies.proofs.runs.runs_of.Given as goal

-- the runs so far, with those of the letters left, are all
abbrev pub invariant-loop-equal : goal.invariant-loop-equal
invariant-loop-equal l =
    (l.first + length (chunk_by_rest l.equal-iterator) ≡ (l.end - length l.letters) + length l.letters)
    × ((more : List Run) → RunsFrom l.first (chunk_by_rest l.equal-iterator) more → RunsFrom (l.end - length l.letters) l.letters (vec_items l.runs ++ more))

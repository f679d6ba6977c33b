use Rattle.std.proofs.Common.{◌≡◌, ◌++◌, take, vec_items}
use Rattle.std.specs.List.{flat_map}
use Rattle.replies.specs.Spelled.{run_line}
use Rattle.replies.proofs.spelling.Reply.write_runs.Given as goal

abbrev pub invariant-loop-run : goal.invariant-loop-run
invariant-loop-run l = vec_items l.self.bytes ≡ vec_items l.initial.self.bytes ++ flat_map run_line (take l.run-index l.runs)

use Rattle.planner.proofs.Backward.{Writing}
use Rattle.planner.proofs.letters.write_letters.Given as goal

abbrev pub invariant-loop-i : goal.invariant-loop-i
invariant-loop-i l = Writing l.trail l.width l.t l.place l.initial.output l.i l.label l.output

use Rattle.frontier.proofs.Turns.{Compacting}
use Rattle.frontier.proofs.passes.compact.Given as goal

abbrev pub invariant-loop-i : goal.invariant-loop-i
invariant-loop-i g l = Compacting g.T.Covers.covers l.x l.initial.kept l.kept l.left l.i

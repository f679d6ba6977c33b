use Rattle.std.proofs.Common.{◌-◌, ◌≤◌}
use Rattle.planner.proofs.Carrying.{Held}
use Rattle.planner.proofs.card.recording.carry.Given as goal

abbrev pub invariant-loop-quarter : goal.invariant-loop-quarter
invariant-loop-quarter g l =
    (l.from ≤ l.quarter) × Held g.B.RuleBook.names g.B.RuleBook.after (g.B.RuleBook.figures l.initial.book) l.from l.duty (l.quarter - l.from) (g.B.RuleBook.figures l.book)

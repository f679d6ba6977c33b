use Rattle.std.proofs.Common.{◌≤◌, take}
use Rattle.planner.proofs.Going.{Going}
use Rattle.planner.proofs.search.search.Given as goal

abbrev pub invariant-loop-t : goal.invariant-loop-t
invariant-loop-t g l =
    (l.count ≤ l.width)
    × Going g.B.RuleBook.names g.B.RuleBook.after g.B.Row.Figures.better l.stops (g.B.RuleBook.figures l.card.book) l.card.now l.width l.trail (take l.count l.front) l.t

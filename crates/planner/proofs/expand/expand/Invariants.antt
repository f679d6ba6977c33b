use Rattle.std.proofs.Common.{◌≡◌, length}
use Rattle.planner.proofs.Expansion.{Expanded}
use Rattle.planner.proofs.expand.expand.Given as goal

abbrev pub invariant-loop-j : goal.invariant-loop-j
invariant-loop-j g l =
    Expanded g.B.RuleBook.names g.B.RuleBook.after g.B.Row.Figures.better l.moment.stops.now l.moment.quarter l.labels (length l.initial.frontier.places.now) l.frontier l.j
    × (l.frontier.places.ghost_name ≡ l.initial.frontier.places.ghost_name)

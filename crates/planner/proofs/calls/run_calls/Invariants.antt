use Rattle.std.proofs.Common.{List, ◌++◌, drop, vec_items}
use Rattle.planner.specs.History.{History, fresh}
use Rattle.planner.specs.OfBooks.{KeptBy}
use Rattle.planner.specs.Promise.{Answer}
use Rattle.planner.specs.Standing.{StandsFor}
use Rattle.planner.specs.Toured.{stops_of}
use Rattle.planner.proofs.calls.run_calls.Given as goal

-- whatever answers the rest of the calls fitly from the present history, with the answers so far answers them all
abbrev pub invariant-loop-call : goal.invariant-loop-call
invariant-loop-call g l =
    (h : History)
    × StandsFor g.B.RuleBook.names g.B.RuleBook.after (g.B.RuleBook.opened (g.B.RuleBook.figures l.book)) (g.B.RuleBook.figures l.card.book) l.card.now (stops_of l.tour) h
    × ((rest : List Answer) → KeptBy g.B.RuleBook g.B.Row.Figures l.book h (drop l.call-index l.calls) rest → KeptBy g.B.RuleBook g.B.Row.Figures l.book fresh l.calls (vec_items l.answers ++ rest))

use Rattle.std.proofs.Common.{◌≡◌, ℕ, ◌<◌, true, get_or, take, is_some}
use Rattle.duty.specs.Duties.{duty_of, spelt}
use Rattle.rules.proofs.Following.{Followed}
use Rattle.rules.proofs.judge.judge.Given as goal

abbrev pub invariant-loop-quarter : goal.invariant-loop-quarter
invariant-loop-quarter g l =
    ((k : ℕ) → k < l.quarter-counter → is_some (duty_of (get_or l.log k 0)) ≡ true)
    × Followed g.B.RuleBook.names g.B.RuleBook.after (g.B.RuleBook.opened (g.B.RuleBook.figures l.book)) (spelt (take l.quarter-counter l.log)) (g.B.RuleBook.figures l.state) l.found

use Rattle.std.proofs.Common.{sym, subst, arith}
use Rattle.planner.specs.Recorded.{Breached}
use Rattle.planner.proofs.Carrying.{carry_more, carry_breach}
use Rattle.planner.proofs.card.recording.carry.Goals as goal

pub loop-quarter-preserved : goal.loop-quarter-preserved
loop-quarter-preserved g c = (
  omega (arith, c.loop-quarter.invariant.0),
  carry_more g.B.RuleBook.names g.B.RuleBook.after _ c.args.from c.args.duty c.loop-quarter.quarter _ _ c.loop-quarter.invariant.0 (omega arith) c.loop-quarter.invariant.1 c.in_default.ensures c.step.ensures,
)

pub returns-in-Some : goal.returns-in-Some
returns-in-Some g c =
    subst (Breached g.B.RuleBook.names g.B.RuleBook.after (g.B.RuleBook.figures c.args.book.now) c.args.from c.args.count c.args.duty) (sym c.at.ensures)
    (carry_breach g.B.RuleBook.names g.B.RuleBook.after _ c.args.from c.args.duty c.loop-quarter.quarter c.args.count _ c.in-Some.named c.loop-quarter.invariant.0 (omega arith) c.loop-quarter-test.true c.loop-quarter.invariant.1 c.in-Some.ensures)

use Rattle.std.proofs.Common.{sym, subst}
use Rattle.books.specs.Bounds.{CycleSound}
use Rattle.books.specs.CycleLaws.{next_sound}
use Rattle.books.proofs.duty_cycle.book.CycleStateRuleBook.step.Goals as goal

pub invariant_of-self : goal.invariant_of-self
invariant_of-self c =
    let was = c.args.self.now in record { bounded = subst CycleSound (sym c.next.ensures) (next_sound was.row c.min.result c.args.duty was.bounded) }

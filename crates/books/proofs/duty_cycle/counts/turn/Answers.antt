use Rattle.std.proofs.Common.{rules}
use Rattle.books.specs.Eights.{turned_from}
use Rattle.books.proofs.duty_cycle.counts.turn.Goals as goal

pub returns : goal.returns
returns c =
    turned_from c.args.days c.args.today c.args.counts.now c.from_fn.result c.from_fn.ensures.items.long (λ k lt. let gave = c.from_fn.ensures.items.at k 0 lt in search rules)

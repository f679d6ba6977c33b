use Rattle.std.proofs.Common.{◌≡◌, sum, rules}
use Rattle.std.proofs.iter.runs.Sources.{sums}
use Rattle.books.specs.Eights.{sum_of_eight}
use Rattle.books.proofs.duty_cycle.counts.total.Goals as goal

pub sum-requires-clause-fits : goal.sum-requires-clause-fits
sum-requires-clause-fits c = search (rules, sums)

pub returns : goal.returns
returns c = let whole : c.sum.result ≡ sum c.args.counts.now = search (rules, sums) in search (rules, sum_of_eight)

use Rattle.frontier_pairs.specs.Pairs.{Chosen}
use Rattle.frontier_pairs.proofs.choice.choose_often.Given as goal

abbrev pub invariant-loop : goal.invariant-loop
invariant-loop l = Chosen l.count l.places l.pairs

use Rattle.std.proofs.Common.{◌≡◌, List, ◌++◌, take}
use Rattle.frontier.specs.Cover.{SmallestCover}
use Rattle.frontier.specs.Places.{kept}
use Rattle.frontier_pairs.specs.Pairs.{NoLarger}
use Rattle.frontier_pairs.specs.declared.pair.Pair.{Pair}
use Rattle.frontier_pairs.proofs.choice.offer_all.Given as goal

abbrev pub invariant-loop-pair : goal.invariant-loop-pair
invariant-loop-pair l =
    ((seen : List Pair) → SmallestCover NoLarger (kept l.initial.frontier) seen
    → SmallestCover NoLarger (kept l.frontier) (seen ++ take l.pair-index l.pairs))
    × (l.frontier.places.ghost_name ≡ l.initial.frontier.places.ghost_name)

use Rattle.std.proofs.Common.{◌≡◌}
use Rattle.frontier_pairs.proofs.InPlace.{Moved}
use Rattle.frontier_pairs.proofs.choice.choose_in_place.Given as goal

abbrev pub invariant-loop-i : goal.invariant-loop-i
invariant-loop-i l =
    Moved l.initial.frontier.places.now l.frontier l.i
    × (l.frontier.places.ghost_name ≡ l.initial.frontier.places.ghost_name)

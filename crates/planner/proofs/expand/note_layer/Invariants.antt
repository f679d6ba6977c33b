use Rattle.std.proofs.Common.{◌≡◌, ℕ, ◌<◌, get_or}
use Rattle.planning.specs.declared.Label.{Label}
use Rattle.planner.proofs.expand.note_layer.Given as goal

abbrev pub invariant-loop-j : goal.invariant-loop-j
invariant-loop-j g l = (i : ℕ) (d : Label _) → i < l.j → get_or l.trail i 0 ≡ (get_or l.labels i d).from

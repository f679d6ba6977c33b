-- Covering as it is tested: at the same stop, as far with its service, no less far with the driving, at least as well off. Assumes nothing.
use Rattle.std.specs.Prelude.{◌≡◌, ◌≤◌}
use Rattle.planning.specs.declared.Label.{Label}

abbrev pub Plainly : {R : Type 0} → (R → R → Type 0) → Label R → Label R → Type 0
Plainly better a b = (a.stop ≡ b.stop) × (a.service ≡ b.service) × (a.drive ≤ b.drive) × better a.row b.row

-- A machine over another of n layers. Assumes nothing.
--   both_name    what the two name: the lower one first, and the upper one's layers counted on
--   both_move    where the state of the two goes: both move, or where something is named neither does
use Rattle.std.specs.Prelude.{ℕ, Option}
use Rattle.duty.specs.declared.Duty.{Duty}
use Rattle.rules.specs.declared.breach.Violation.{Violation}
use Rattle.rules.specs.declared.layered.Layered.{Layered}
use Rattle.rules.specs.Layers.{raised, first_named, moved}

module _ {O U : Type 0} (nu : O → ℕ → Duty → Option Violation) (au : O → ℕ → Duty → O) (nl : U → ℕ → Duty → Option Violation) (al : U → ℕ → Duty → U) (n : ℕ) where
  abbrev pub both_name : Layered O U → ℕ → Duty → Option Violation
  both_name s q x = first_named (nl s.below q x) (raised n (nu s.own q x))

  abbrev pub both_move : Layered O U → ℕ → Duty → Layered O U
  both_move s q x = moved (first_named (nl s.below q x) (nu s.own q x)) (record { own = au s.own q x; below = al s.below q x }) s

-- The alive labels one quarter on from a layer of labels. Assumes nothing.
--   alive q a            whether the label can still be served in time
--   second a             the status to try beside rest: work where no driving is left, else driving
--   candidates q j a     the alive labels that the j-th label a moves to at quarter q
--   layer q j labels     those of all the labels, the first of which is the j-th
use Rattle.std.specs.Prelude.{ℕ, ◌+◌, Bool, cond, ◌||◌, List, [], ◌∷◌, ◌++◌, Some, None, Option, ◌==◌, nat_le}
use Rattle.duty.specs.declared.Duty.{Duty}
use Rattle.duty.specs.declared.Duty.TheVariants.{Rest, Work, Drive}
use Rattle.rules.specs.declared.breach.Violation.{Violation}
use Rattle.planning.specs.declared.Label.{Label}
use Rattle.planning.specs.declared.Stop.{Stop}
use Rattle.planning.specs.Labels.{stop_at}
use Rattle.planning.specs.Moves.{begun, move}
use Rattle.planner.specs.Trail.{entry}

abbrev pub alive : {R : Type 0} → List Stop → ℕ → Label R → Bool
alive stops q a = begun stops a || nat_le (q + a.drive) (stop_at stops a.stop).closes

-- the label that was moved to, if there is one and it is alive
abbrev pub live : {R : Type 0} → List Stop → ℕ → Option (Label R) → List (Label R)
live stops q None = []
live stops q (Some b) = cond (alive stops q b) (b ∷ []) []

abbrev pub second : {R : Type 0} → Label R → Duty
second a = cond (a.drive == 0) Work Drive

abbrev pub candidates : {R : Type 0} → (R → ℕ → Duty → Option Violation) → (R → ℕ → Duty → R) → List Stop → ℕ → ℕ → Label R → List (Label R)
candidates names after stops q j a =
    live stops (q + 1) (move names after stops q (entry j Rest) a Rest) ++ live stops (q + 1) (move names after stops q (entry j (second a)) a (second a))

abbrev pub layer : {R : Type 0} → (R → ℕ → Duty → Option Violation) → (R → ℕ → Duty → R) → List Stop → ℕ → ℕ → List (Label R) → List (Label R)
layer names after stops q j [] = []
layer names after stops q j (a ∷ labels) = candidates names after stops q j a ++ layer names after stops q (j + 1) labels

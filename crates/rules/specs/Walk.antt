-- A state machine over duty statuses led along a log. Assumes nothing.
--   Allowed names after s q l    from s before quarter q on, each status of l is allowed in turn
--   led after s q l              the state that l leads to
use Rattle.std.specs.Prelude.{◌≡◌, ℕ, ◌+◌, List, [], ◌∷◌, None, Option}
use Rattle.duty.specs.declared.Duty.{Duty}

abbrev pub led : {S : Type 0} → (S → ℕ → Duty → S) → S → ℕ → List Duty → S
led after s q [] = s
led after s q (x ∷ l) = led after (after s q x) (q + 1) l

abbrev pub Allowed : {S V : Type 0} → (S → ℕ → Duty → Option V) → (S → ℕ → Duty → S) → S → ℕ → List Duty → Type 0
Allowed names after s q [] = Unit {0}
Allowed names after s q (x ∷ l) = (names s q x ≡ None) × Allowed names after (after s q x) (q + 1) l

-- What a search from `now` on has shown. Assumes nothing.
--   Unended .. q               no lawful letters serve the tour with an end up to q
--   Few .. k q                 at most k labels are needed at quarter q
--   Ends .. k span trail t j   the first end is after quarter now + t, and the trail leads there from the j-th label
--   NoneEnds .. k span         no lawful letters serve the tour by now + span
--   Crowds .. k span           more than k labels are needed at a quarter at which none has ended yet
--   FindsNone .. why           the refusal says which of the last two holds
--   Searched .. r              the first end, or the refusal
use Rattle.std.specs.Prelude.{◌≡◌, ℕ, ◌+◌, ◌<◌, ◌≤◌, ◌⊎◌, List, [], ◌∷◌, ◌++◌, length, Ok, Err, Option, Result}
use Rattle.duty.specs.declared.Duty.{Duty}
use Rattle.duty.specs.declared.Duty.TheVariants.{Work}
use Rattle.rules.specs.declared.breach.Violation.{Violation}
use Rattle.rules.specs.declared.refusal.Refusal.{Refusal}
use Rattle.rules.specs.Refusals.{number}
use Rattle.rules.specs.Walk.{Allowed}
use Rattle.planning.specs.declared.Stop.{Stop}
use Rattle.planning.specs.Labels.{Needed}
use Rattle.planning.specs.Serving.{Serves}
use Rattle.planner.specs.declared.search.End.{End}
use Rattle.planner.specs.Trail.{Path}

abbrev pub Unended : {R : Type 0} → (R → ℕ → Duty → Option Violation) → (R → ℕ → Duty → R) → List Stop → R → ℕ → ℕ → Type 0
Unended names after stops start now q = (ls : List Duty) → Allowed names after start now ls → Serves stops now ls → now + length ls ≤ q → ⊥

abbrev pub Few : {R : Type 0} → (R → ℕ → Duty → Option Violation) → (R → ℕ → Duty → R) → (R → R → Type 0) → List Stop → R → ℕ → ℕ → ℕ → Type 0
Few names after better stops start now k q = (n : ℕ) × Needed names after better stops start now q n × (n ≤ k)

pub record Ends {R : Type 0} (names : R → ℕ → Duty → Option Violation) (after : R → ℕ → Duty → R) (better : R → R → Type 0) (stops : List Stop) (start : R) (now k span : ℕ) (trail : List ℕ) (t j : ℕ) : Type 0 where
  pub within : t < span
  pub place : j < k
  pub letters : List Duty
  pub path : Path trail k t j letters
  pub allowed : Allowed names after start now (letters ++ Work ∷ [])
  pub serves : Serves stops now (letters ++ Work ∷ [])
  pub first : Unended names after stops start now (now + t)
  pub few : (u : ℕ) → u ≤ t → Few names after better stops start now k (now + u)

pub record NoneEnds {R : Type 0} (names : R → ℕ → Duty → Option Violation) (after : R → ℕ → Duty → R) (better : R → R → Type 0) (stops : List Stop) (start : R) (now k span : ℕ) : Type 0 where
  pub none : Unended names after stops start now (now + span)
  pub few : (u : ℕ) → u < span → Few names after better stops start now k (now + u)

pub record Crowds {R : Type 0} (names : R → ℕ → Duty → Option Violation) (after : R → ℕ → Duty → R) (better : R → R → Type 0) (stops : List Stop) (start : R) (now k span : ℕ) : Type 0 where
  pub at : ℕ
  pub within : at < span
  pub unended : Unended names after stops start now (now + at)
  pub number : ℕ
  pub needed : Needed names after better stops start now (now + at) number
  pub more : k < number

-- the refusals of a search: 10, none end; 11, too many labels are needed
abbrev pub FindsNone : {R : Type 0} → (R → ℕ → Duty → Option Violation) → (R → ℕ → Duty → R) → (R → R → Type 0) → List Stop → R → ℕ → ℕ → ℕ → Refusal → Type 0
FindsNone names after better stops start now k span why =
    ((number why ≡ 10) × NoneEnds names after better stops start now k span) ⊎ ((number why ≡ 11) × Crowds names after better stops start now k span)

-- what the search answers
abbrev pub Searched : {R : Type 0} → (R → ℕ → Duty → Option Violation) → (R → ℕ → Duty → R) → (R → R → Type 0) → List Stop → R → ℕ → ℕ → ℕ → List ℕ → Result End Refusal → Type 0
Searched names after better stops start now k span trail (Ok end) = Ends names after better stops start now k span trail end.quarter end.place
Searched names after better stops start now k span trail (Err why) = FindsNone names after better stops start now k span why

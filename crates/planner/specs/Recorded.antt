-- What becomes of a card when a status is recorded for some quarters. Assumes nothing.
--   names, after              a book, by the rows of its states: what it names at a quarter, and the next row
--   row, now                  the card's: the row of its state, and the quarter that it stands before
--   Breached .. x b           the quarters of the status x before b's are allowed, and b is what the book then names
--   Carried .. x row' o       what is found in count quarters of x: no breach, and the row that they lead to, or the first breach
--   Fitting now count         count is not 0, and so many quarters are left
--   Added .. row' now'        the letter's status is allowed for all the quarters, and they are added
--   Stopped .. why            they fit, and the first breach is the refusal
--   RefusedRecord .. why      the refusals in their order: no letter, a count out of range, the first breach
--   Recorded .. row' now' r   the quarters are added, or they are refused and nothing changes
use Rattle.std.specs.Prelude.{◌≡◌, ℕ, ◌+◌, ◌-◌, ◌<◌, ◌≤◌, true, ◌⊎◌, replicate, is_some, Some, None, Ok, Err, Option, Result}
use Rattle.duty.specs.declared.Duty.{Duty}
use Rattle.duty.specs.Duties.{duty_of}
use Rattle.rules.specs.declared.breach.Breach.{Breach}
use Rattle.rules.specs.declared.breach.Violation.{Violation}
use Rattle.rules.specs.declared.refusal.Refusal.{Refusal}
use Rattle.rules.specs.declared.refusal.Refusal.TheVariants as refusal
use Rattle.rules.specs.Judged.{breach_at}
use Rattle.rules.specs.Refusals.{number}
use Rattle.rules.specs.Walk.{led, Allowed}

pub record Breached {R : Type 0} (names : R → ℕ → Duty → Option Violation) (after : R → ℕ → Duty → R) (row : R) (now count : ℕ) (x : Duty) (b : Breach) : Type 0 where
  pub begun : now ≤ b.quarter
  pub within : b.quarter - now < count
  pub allowed : Allowed names after row now (replicate (b.quarter - now) x)
  pub named : breach_at b.quarter (names (led after row now (replicate (b.quarter - now) x)) b.quarter x) ≡ Some b

abbrev pub Carried : {R : Type 0} → (R → ℕ → Duty → Option Violation) → (R → ℕ → Duty → R) → R → ℕ → ℕ → Duty → R → Option Breach → Type 0
Carried names after row now count x row' None = Allowed names after row now (replicate count x) × (row' ≡ led after row now (replicate count x))
Carried names after row now count x row' (Some b) = Breached names after row now count x b

abbrev pub Fitting : ℕ → ℕ → Type 0
Fitting now count = (0 < count) × (now + count ≤ 2688)

pub record Added {R : Type 0} (names : R → ℕ → Duty → Option Violation) (after : R → ℕ → Duty → R) (row : R) (now letter count : ℕ) (row' : R) (now' : ℕ) : Type 0 where
  pub status : Duty
  pub spelt : duty_of letter ≡ Some status
  pub fitting : Fitting now count
  pub allowed : Allowed names after row now (replicate count status)
  pub state : row' ≡ led after row now (replicate count status)
  pub later : now' ≡ now + count

pub record Stopped {R : Type 0} (names : R → ℕ → Duty → Option Violation) (after : R → ℕ → Duty → R) (row : R) (now letter count : ℕ) (why : Refusal) : Type 0 where
  pub status : Duty
  pub spelt : duty_of letter ≡ Some status
  pub fitting : Fitting now count
  pub breach : Breach
  pub first : Breached names after row now count status breach
  pub answer : why ≡ refusal.Breach breach

abbrev pub RefusedRecord : {R : Type 0} → (R → ℕ → Duty → Option Violation) → (R → ℕ → Duty → R) → R → ℕ → ℕ → ℕ → Refusal → Type 0
RefusedRecord names after row now letter count why =
    ((number why ≡ 1) × (duty_of letter ≡ None))
    ⊎ (((number why ≡ 2) × (is_some (duty_of letter) ≡ true) × ((count ≡ 0) ⊎ (2688 < now + count))) ⊎ Stopped names after row now letter count why)

abbrev pub Recorded : {R : Type 0} → (R → ℕ → Duty → Option Violation) → (R → ℕ → Duty → R) → R → ℕ → ℕ → ℕ → R → ℕ → Result (Unit {0}) Refusal → Type 0
Recorded names after row now letter count row' now' (Ok _) = Added names after row now letter count row' now'
Recorded names after row now letter count row' now' (Err why) = (row' ≡ row) × (now' ≡ now) × RefusedRecord names after row now letter count why

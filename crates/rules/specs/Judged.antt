-- What the judge says of a log. Assumes nothing.
--   Breached .. l n b    the first n statuses of l are lawful, one more is not, and b is what the book then names at n
--   Found .. l n o       the lawful length n of l, with the first breach if there is one
--   Judged .. bytes r    the judge's answer: the refusals in their order, or what is found in the log that the bytes spell
use Rattle.std.specs.Prelude.{◌≡◌, ℕ, ◌+◌, ◌<◌, ◌≤◌, ◌⊎◌, List, length, take, Some, None, Ok, Err, Option, Result}
use Rattle.duty.specs.declared.Duty.{Duty}
use Rattle.duty.specs.Duties.{Letters, spelt}
use Rattle.duty.specs.Logs.{at}
use Rattle.rules.specs.declared.breach.Breach.{Breach}
use Rattle.rules.specs.declared.breach.Violation.{Violation}
use Rattle.rules.specs.declared.refusal.Refusal.{Refusal}
use Rattle.rules.specs.Refusals.{number}
use Rattle.rules.specs.Walk.{led}

-- the breach that a violation is at a quarter
abbrev pub breach_at : ℕ → Option Violation → Option Breach
breach_at q None = None
breach_at q (Some v) = Some (record { quarter = q; rule = v.rule; layer = v.layer })

-- the quarters before the first breach, or the whole log where there is none
abbrev pub lawful_length : Option Breach → ℕ → ℕ
lawful_length None whole = whole
lawful_length (Some b) whole = b.quarter

pub record Breached {S : Type 0} (names : S → ℕ → Duty → Option Violation) (after : S → ℕ → Duty → S) (opened : S) (lawful : List Duty → Type 0) (l : List Duty) (n : ℕ) (b : Breach) : Type 0 where
  pub within : n < length l
  pub before : lawful (take n l)
  pub broken : lawful (take (n + 1) l) → ⊥
  pub named : breach_at n (names (led after opened 0 (take n l)) n (at l n)) ≡ Some b

abbrev pub Found : {S : Type 0} → (S → ℕ → Duty → Option Violation) → (S → ℕ → Duty → S) → S → (List Duty → Type 0) → List Duty → ℕ → Option Breach → Type 0
Found names after opened lawful l n None = (n ≡ length l) × lawful l
Found names after opened lawful l n (Some b) = Breached names after opened lawful l n b

-- the refusals of a log, in their order: too long, then a byte that is no letter
abbrev pub RefusedLog : List ℕ → Refusal → Type 0
RefusedLog bytes why = ((number why ≡ 2) × (2688 < length bytes)) ⊎ ((number why ≡ 1) × (length bytes ≤ 2688) × (Letters bytes → ⊥))

abbrev pub Judged : {S : Type 0} → (S → ℕ → Duty → Option Violation) → (S → ℕ → Duty → S) → S → (List Duty → Type 0) → List ℕ → Result (ℕ × Option Breach) Refusal → Type 0
Judged names after opened lawful bytes (Err why) = RefusedLog bytes why
Judged names after opened lawful bytes (Ok found) = (length bytes ≤ 2688) × Letters bytes × Found names after opened lawful (spelt bytes) found.0 found.1

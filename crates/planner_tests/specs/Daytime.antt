-- Driving by day. Assumes nothing.
--   ByDay q      quarter q lies in the day's quarters 24 to 79
--   AllByDay l   every driving quarter of the log does
--   day_names    rule 20 for driving at another quarter
use Rattle.std.specs.Prelude.{◌≡◌, ℕ, ◌%◌, ◌<◌, ◌≤◌, cond, List, length, Some, None, Option, nat_le}
use Rattle.duty.specs.declared.Duty.{Duty}
use Rattle.duty.specs.declared.Duty.TheVariants.{Rest, Work, Drive}
use Rattle.duty.specs.Logs.{at}
use Rattle.rules.specs.declared.breach.Violation.{Violation}

pub record ByDay (q : ℕ) : Type 0 where
  pub from : 24 ≤ q % 96
  pub until : q % 96 < 80

abbrev pub AllByDay : List Duty → Type 0
AllByDay l = (q : ℕ) → q < length l → at l q ≡ Drive → ByDay q

abbrev pub night : Option Violation
night = Some (record { rule = 20; layer = 1 })

abbrev pub day_names : ℕ → Duty → Option Violation
day_names q Rest = None
day_names q Work = None
day_names q Drive = cond (nat_le 24 (q % 96)) (cond (nat_le 80 (q % 96)) night None) night

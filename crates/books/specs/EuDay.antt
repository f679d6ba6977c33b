-- The EU day as a state machine. Assumes nothing.
--   opened_day   a full rest just taken
--   day_names    rule 3 where 52 quarters have gone by, rule 4 where 36 of them were driving
--   day_after    one quarter on, where it is allowed
--   remade_day   the row itself where it is a state's, else the opened one
use Rattle.std.specs.Prelude.{ℕ, Bool, cond, Some, None, Option, nat_le}
use Rattle.duty.specs.declared.Duty.{Duty}
use Rattle.duty.specs.declared.Duty.TheVariants.{Rest, Work, Drive}
use Rattle.rules.specs.declared.breach.Violation.{Violation}
use Rattle.rules.specs.Layers.{moved}
use Rattle.books.specs.declared.eu_day.EuDay.{EuDay}
use Rattle.books.specs.declared.period.PeriodRow.{PeriodRow}
use Rattle.books.specs.Period.{opened_period, next_period, fits_period}

abbrev pub day_row : EuDay → PeriodRow
day_row b = b.row

abbrev pub opened_day : PeriodRow
opened_day = opened_period 44

abbrev pub day_names : PeriodRow → ℕ → Duty → Option Violation
day_names s q Rest = None
day_names s q Work = cond (nat_le 52 s.elapsed) (Some (record { rule = 3; layer = 1 })) None
day_names s q Drive =
    cond (nat_le 52 s.elapsed) (Some (record { rule = 3; layer = 1 })) (cond (nat_le 36 s.driven) (Some (record { rule = 4; layer = 1 })) None)

abbrev pub day_after : PeriodRow → ℕ → Duty → PeriodRow
day_after s q x = moved (day_names s q x) (next_period 44 52 s x) s

-- whether a row is a state's
abbrev pub fits_day : PeriodRow → Bool
fits_day s = fits_period 52 36 44 s

abbrev pub remade_day : PeriodRow → PeriodRow
remade_day s = cond (fits_day s) s opened_day

-- The US shift as a state machine. Assumes nothing.
--   shift_names     rule 1 where 56 quarters have gone by, rule 2 where 44 of them were driving
use Rattle.std.specs.Prelude.{ℕ, Bool, cond, Some, None, Option, nat_le}
use Rattle.duty.specs.declared.Duty.{Duty}
use Rattle.duty.specs.declared.Duty.TheVariants.{Rest, Work, Drive}
use Rattle.rules.specs.declared.breach.Violation.{Violation}
use Rattle.rules.specs.Layers.{moved}
use Rattle.books.specs.declared.period.PeriodRow.{PeriodRow}
use Rattle.books.specs.declared.us_shift.UsShift.{UsShift}
use Rattle.books.specs.Period.{opened_period, next_period, fits_period}

abbrev pub shift_row : UsShift → PeriodRow
shift_row b = b.row

abbrev pub opened_shift : PeriodRow
opened_shift = opened_period 40

abbrev pub shift_names : PeriodRow → ℕ → Duty → Option Violation
shift_names s q Rest = None
shift_names s q Work = None
shift_names s q Drive =
    cond (nat_le 56 s.elapsed) (Some (record { rule = 1; layer = 1 })) (cond (nat_le 44 s.driven) (Some (record { rule = 2; layer = 1 })) None)

abbrev pub shift_after : PeriodRow → ℕ → Duty → PeriodRow
shift_after s q x = moved (shift_names s q x) (next_period 40 56 s x) s

-- whether a row is a state's
abbrev pub fits_shift : PeriodRow → Bool
fits_shift s = fits_period 56 44 40 s

abbrev pub remade_shift : PeriodRow → PeriodRow
remade_shift s = cond (fits_shift s) s opened_shift

-- The books of the named rule sets as machines over their rows: what each names, where its state goes, and which of two states is at
-- least as well off. Assumes nothing.
--   us_..   the US sets; us_low_.. is shift and break alone
--   eu_..   the EU set; eu_low_.. is day and break alone, eu_mid_.. these with the weeks
use Rattle.std.specs.Prelude.{ℕ, Option}
use Rattle.duty.specs.declared.Duty.{Duty}
use Rattle.rules.specs.declared.breach.Violation.{Violation}
use Rattle.rules.specs.declared.layered.Layered.{Layered}
use Rattle.rules.specs.Piling.{both_name, both_move}
use Rattle.books.specs.declared.driving_break.row.BreakRow.{BreakRow}
use Rattle.books.specs.declared.duty_cycle.row.CycleRow.{CycleRow}
use Rattle.books.specs.declared.period.PeriodRow.{PeriodRow}
use Rattle.books.specs.declared.weekly_rest.row.WeeklyRestRow.{WeeklyRestRow}
use Rattle.books.specs.declared.weeks.row.WeeksRow.{WeeksRow}
use Rattle.books.specs.DrivingBreak.{break_names, break_after, NoWorseBreak}
use Rattle.books.specs.DutyCycle.{cycle_names, cycle_after, NoWorseCycle}
use Rattle.books.specs.EuDay.{day_names, day_after}
use Rattle.books.specs.EuWeeks.{weeks_names, weeks_after, WeeksNoWorse}
use Rattle.books.specs.Period.{NoWorse}
use Rattle.books.specs.UsShift.{shift_names, shift_after}
use Rattle.books.specs.WeeklyRest.{weekly_rest_names, weekly_rest_after, RestNoWorse}

abbrev pub UsRow : Type 0
UsRow = Layered CycleRow (Layered BreakRow PeriodRow)

-- shift and break
abbrev pub us_low_names : Layered BreakRow PeriodRow → ℕ → Duty → Option Violation
us_low_names = both_name break_names break_after shift_names shift_after 1

abbrev pub us_low_after : Layered BreakRow PeriodRow → ℕ → Duty → Layered BreakRow PeriodRow
us_low_after = both_move break_names break_after shift_names shift_after 1

-- and the cycle
abbrev pub us_names : UsRow → ℕ → Duty → Option Violation
us_names = both_name cycle_names cycle_after us_low_names us_low_after 2

abbrev pub us_after : UsRow → ℕ → Duty → UsRow
us_after = both_move cycle_names cycle_after us_low_names us_low_after 2

abbrev pub us_better : UsRow → UsRow → Type 0
us_better a b = NoWorseCycle a.own b.own × (NoWorseBreak a.below.own b.below.own × NoWorse a.below.below b.below.below)

abbrev pub EuRow : Type 0
EuRow = Layered WeeklyRestRow (Layered WeeksRow (Layered BreakRow PeriodRow))

-- day and break
abbrev pub eu_low_names : Layered BreakRow PeriodRow → ℕ → Duty → Option Violation
eu_low_names = both_name break_names break_after day_names day_after 1

abbrev pub eu_low_after : Layered BreakRow PeriodRow → ℕ → Duty → Layered BreakRow PeriodRow
eu_low_after = both_move break_names break_after day_names day_after 1

-- and the weeks
abbrev pub eu_mid_names : Layered WeeksRow (Layered BreakRow PeriodRow) → ℕ → Duty → Option Violation
eu_mid_names = both_name weeks_names weeks_after eu_low_names eu_low_after 2

abbrev pub eu_mid_after : Layered WeeksRow (Layered BreakRow PeriodRow) → ℕ → Duty → Layered WeeksRow (Layered BreakRow PeriodRow)
eu_mid_after = both_move weeks_names weeks_after eu_low_names eu_low_after 2

-- and the weekly rest
abbrev pub eu_names : EuRow → ℕ → Duty → Option Violation
eu_names = both_name weekly_rest_names weekly_rest_after eu_mid_names eu_mid_after 3

abbrev pub eu_after : EuRow → ℕ → Duty → EuRow
eu_after = both_move weekly_rest_names weekly_rest_after eu_mid_names eu_mid_after 3

abbrev pub eu_better : EuRow → EuRow → Type 0
eu_better a b =
    RestNoWorse a.own b.own
    × (WeeksNoWorse a.below.own b.below.own
    × (NoWorseBreak a.below.below.own b.below.below.own × NoWorse a.below.below.below b.below.below.below))

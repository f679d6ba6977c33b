-- The books of the named rule sets, by their rows. Assumes nothing.
use Rattle.std.specs.Prelude.{ℕ}
use Rattle.rules.specs.declared.layered.Layered.{Layered}
use Rattle.books.specs.declared.driving_break.BreakState.{BreakState}
use Rattle.books.specs.declared.driving_break.row.BreakRow.{BreakRow}
use Rattle.books.specs.declared.duty_cycle.CycleState.{CycleState}
use Rattle.books.specs.declared.duty_cycle.row.CycleRow.{CycleRow}
use Rattle.books.specs.declared.eu_day.EuDay.{EuDay}
use Rattle.books.specs.declared.pause.Pause.TheVariants as kind
use Rattle.books.specs.declared.period.PeriodRow.{PeriodRow}
use Rattle.books.specs.declared.us_shift.UsShift.{UsShift}
use Rattle.books.specs.declared.weekly_rest.WeeklyRestState.{WeeklyRestState}
use Rattle.books.specs.declared.weekly_rest.row.WeeklyRestRow.{WeeklyRestRow}
use Rattle.books.specs.declared.weeks.WeeksState.{WeeksState}
use Rattle.books.specs.declared.weeks.row.WeeksRow.{WeeksRow}
use Rattle.books.specs.DrivingBreak.{break_row, opened_break}
use Rattle.books.specs.DutyCycle.{cycle_row, given_cycle, opened_cycle}
use Rattle.books.specs.EuDay.{day_row, opened_day}
use Rattle.books.specs.EuWeeks.{weeks_row, opened_weeks}
use Rattle.books.specs.UsShift.{shift_row, opened_shift}
use Rattle.books.specs.WeeklyRest.{weekly_rest_row, opened_weekly_rest}

abbrev pub us_row : Layered CycleState (Layered BreakState UsShift) → Layered CycleRow (Layered BreakRow PeriodRow)
us_row b = record { own = cycle_row b.own; below = record { own = break_row b.below.own; below = shift_row b.below.below } }

-- the state before quarter 0 under a cycle of that many days and quarters on duty
abbrev pub opened_us : ℕ → ℕ → Layered CycleRow (Layered BreakRow PeriodRow)
opened_us days limit = record { own = opened_cycle days limit 136; below = record { own = opened_break 32 2 kind.OffWheel; below = opened_shift } }

-- the same, with figures that may lie outside their ranges
abbrev pub given_us : ℕ → ℕ → Layered CycleRow (Layered BreakRow PeriodRow)
given_us days limit = record { own = given_cycle days limit 136; below = record { own = opened_break 32 2 kind.OffWheel; below = opened_shift } }

abbrev pub eu_row : Layered WeeklyRestState (Layered WeeksState (Layered BreakState EuDay)) → Layered WeeklyRestRow (Layered WeeksRow (Layered BreakRow PeriodRow))
eu_row b = record {
  own = weekly_rest_row b.own;
  below = record { own = weeks_row b.below.own; below = record { own = break_row b.below.below.own; below = day_row b.below.below.below } };
}

abbrev pub opened_eu : Layered WeeklyRestRow (Layered WeeksRow (Layered BreakRow PeriodRow))
opened_eu = record {
  own = opened_weekly_rest;
  below = record { own = opened_weeks; below = record { own = opened_break 18 3 kind.Rest; below = opened_day } };
}

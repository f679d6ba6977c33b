-- A duty period as plain figures: quarters elapsed since the latest full rest, driving since then, rest run. Assumes nothing.
--   NoWorse a b             no count of a is larger than b's, and its run is not shorter
--   opened_period full      a full rest just taken
--   next_period full held   one quarter on, with the run full at `full` and the quarters elapsed held at `held`
--   fits_period elapsed driven full   whether a row is a state's, under these limits and a full rest of `full`
use Rattle.std.specs.Prelude.{ℕ, ◌+◌, ◌≤◌, min, Bool, cond, ◌&&◌, ◌||◌, ◌==◌, nat_le, nat_lt}
use Rattle.duty.specs.declared.Duty.{Duty}
use Rattle.duty.specs.Duties.{resting, driving}
use Rattle.duty.specs.Runs.{next_run}
use Rattle.books.specs.declared.period.PeriodRow.{PeriodRow}

pub record NoWorse (a b : PeriodRow) : Type 0 where
  pub elapsed : a.elapsed ≤ b.elapsed
  pub driven : a.driven ≤ b.driven
  pub rest : b.rest ≤ a.rest

abbrev pub opened_period : ℕ → PeriodRow
opened_period full = record { elapsed = 0; driven = 0; rest = full }

abbrev pub next_period : ℕ → ℕ → PeriodRow → Duty → PeriodRow
next_period full held s x =
    cond (next_run full s.rest (resting x) == full)
    (record { elapsed = 0; driven = 0; rest = next_run full s.rest (resting x) })
    (record { elapsed = min (s.elapsed + 1) held; driven = s.driven + cond (driving x) 1 0; rest = next_run full s.rest (resting x) })

abbrev pub fits_period : ℕ → ℕ → ℕ → PeriodRow → Bool
fits_period elapsed driven full s = nat_le s.elapsed elapsed && nat_le s.driven driven && nat_le s.rest full && (nat_lt s.rest full || (s.elapsed == 0 && s.driven == 0))

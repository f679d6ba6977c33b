-- The EU weekly rest as a state machine over the quarters since the latest full rest and the rest run. Assumes nothing.
--   RestNoWorse          the count is not larger, and the run is not shorter
--   opened_weekly_rest   a full rest just taken
--   next_weekly_rest     one quarter on: a rest that gets full begins the count anew, which is held at 576
--   weekly_rest_names    rule 9 where 576 quarters have gone by
--   weekly_rest_after    one quarter on, where it is allowed
--   remade_weekly_rest   the row itself where it is a state's, else the opened one
use Rattle.std.specs.Prelude.{ℕ, ◌+◌, ◌≤◌, min, Bool, cond, ◌&&◌, ◌||◌, Some, None, Option, ◌==◌, nat_le, nat_lt}
use Rattle.duty.specs.declared.Duty.{Duty}
use Rattle.duty.specs.Duties.{resting, working}
use Rattle.duty.specs.Runs.{next_run}
use Rattle.rules.specs.declared.breach.Violation.{Violation}
use Rattle.rules.specs.Layers.{moved}
use Rattle.books.specs.declared.weekly_rest.WeeklyRestState.{WeeklyRestState}
use Rattle.books.specs.declared.weekly_rest.row.WeeklyRestRow.{WeeklyRestRow}

pub record RestNoWorse (a b : WeeklyRestRow) : Type 0 where
  pub elapsed : a.elapsed ≤ b.elapsed
  pub rest : b.rest ≤ a.rest

abbrev pub weekly_rest_row : WeeklyRestState → WeeklyRestRow
weekly_rest_row b = b.row

abbrev pub opened_weekly_rest : WeeklyRestRow
opened_weekly_rest = record { elapsed = 0; rest = 180 }

abbrev pub next_weekly_rest : WeeklyRestRow → Duty → WeeklyRestRow
next_weekly_rest s x =
    cond (next_run 180 s.rest (resting x) == 180)
    (record { elapsed = 0; rest = next_run 180 s.rest (resting x) })
    (record { elapsed = min (s.elapsed + 1) 576; rest = next_run 180 s.rest (resting x) })

abbrev pub weekly_rest_names : WeeklyRestRow → ℕ → Duty → Option Violation
weekly_rest_names s q x = cond (working x && nat_le 576 s.elapsed) (Some (record { rule = 9; layer = 1 })) None

abbrev pub weekly_rest_after : WeeklyRestRow → ℕ → Duty → WeeklyRestRow
weekly_rest_after s q x = moved (weekly_rest_names s q x) (next_weekly_rest s x) s

-- whether a row is a state's
abbrev pub fits_weekly_rest : WeeklyRestRow → Bool
fits_weekly_rest s = nat_le s.elapsed 576 && nat_le s.rest 180 && (nat_lt s.rest 180 || s.elapsed == 0)

abbrev pub remade_weekly_rest : WeeklyRestRow → WeeklyRestRow
remade_weekly_rest s = cond (fits_weekly_rest s) s opened_weekly_rest

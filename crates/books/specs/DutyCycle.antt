-- The duty cycle as a state machine. Assumes nothing.
--   cycle_row b        the figures of a state
--   NoWorseCycle a b   the same figures, no more on duty on any day, and no shorter a rest
--   cycle_names        rule 6 where the quarters on duty have reached the limit
--   next_cycle s q x   one quarter on: a rest that gets full ends the counts
--   cycle_after        the same, where the status is allowed; else the state as it is
--   opened_cycle       the state before quarter 0
--   given_cycle        the same, each figure taken as the nearest in its range
--   remade_cycle s     the row s where it is a state's, else the state before quarter 0
--   same_cycle         whether two rows are the same, figure by figure
use Rattle.std.specs.Prelude.{◌≡◌, ℕ, ◌≤◌, min, max, Bool, cond, ◌&&◌, Some, None, Option, ◌==◌, nat_le}
use Rattle.std.specs.Ordering.{on, eq_of_both}
use Rattle.std.specs.Cmp.Lexicographic.{pointwise}
use Rattle.duty.specs.declared.Duty.{Duty}
use Rattle.duty.specs.declared.Duty.TheVariants.{Rest, Work, Drive}
use Rattle.duty.specs.Duties.{resting, working}
use Rattle.duty.specs.Runs.{next_run}
use Rattle.rules.specs.declared.breach.Violation.{Violation}
use Rattle.rules.specs.Layers.{moved}
use Rattle.books.specs.declared.duty_cycle.CycleState.{CycleState}
use Rattle.books.specs.declared.duty_cycle.row.CycleRow.{CycleRow}
use Rattle.books.specs.Bounds.{most_on}
use Rattle.books.specs.DayCounts.{NoMore, none_on, total_on, next_counts, all_within}

abbrev pub cycle_row : CycleState → CycleRow
cycle_row b = b.row

pub record NoWorseCycle (a b : CycleRow) : Type 0 where
  pub days : a.days ≡ b.days
  pub limit : a.limit ≡ b.limit
  pub restart : a.restart ≡ b.restart
  pub duty : NoMore a.duty b.duty
  pub rest : b.rest ≤ a.rest

abbrev pub opened_cycle : ℕ → ℕ → ℕ → CycleRow
opened_cycle days limit restart = record { days = days; limit = limit; restart = restart; duty = none_on; rest = restart }

abbrev pub given_cycle : ℕ → ℕ → ℕ → CycleRow
given_cycle days limit restart = opened_cycle (min (max days 1) 8) (min (max limit 1) 768) (min (max restart 1) 672)

abbrev pub cycle_names : CycleRow → ℕ → Duty → Option Violation
cycle_names s q Rest = None
cycle_names s q Work = None
cycle_names s q Drive = cond (nat_le s.limit (total_on s.duty)) (Some (record { rule = 6; layer = 1 })) None

abbrev pub next_cycle : CycleRow → ℕ → Duty → CycleRow
next_cycle s q x = record {
  days = s.days;
  limit = s.limit;
  restart = s.restart;
  duty = cond (next_run s.restart s.rest (resting x) == s.restart) none_on (next_counts s.days q s.duty (working x));
  rest = next_run s.restart s.rest (resting x);
}

abbrev pub cycle_after : CycleRow → ℕ → Duty → CycleRow
cycle_after s q x = moved (cycle_names s q x) (next_cycle s q x) s

-- whether a row is a state's
abbrev pub fits_cycle : CycleRow → Bool
fits_cycle s = nat_le 1 s.days && nat_le s.days 8 && nat_le 1 s.limit && nat_le s.limit 768 && nat_le 1 s.restart && nat_le s.restart 672 && nat_le s.rest s.restart && all_within (most_on s.days s.restart s.rest) s.duty

abbrev pub remade_cycle : CycleRow → CycleRow
remade_cycle s = cond (fits_cycle s) s (given_cycle s.days s.limit s.restart)

-- whether two rows are the same, figure by figure
abbrev pub same_cycle : CycleRow → CycleRow → Bool
same_cycle =
    eq_of_both (on (λ r. r.days) ◌==◌)
    (eq_of_both (on (λ r. r.limit) ◌==◌)
    (eq_of_both (on (λ r. r.restart) ◌==◌)
    (eq_of_both (on (λ r. r.duty) (pointwise ◌==◌)) (on (λ r. r.rest) ◌==◌))))

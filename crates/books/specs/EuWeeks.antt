-- The EU weeks as a state machine over the driving of this week and of last week. Assumes nothing.
--   WeeksNoWorse   no count is larger
--   opened_weeks   nothing driven yet
--   next_weeks     one quarter on: with a week's last quarter this week becomes last week, and a new one is begun
--   weeks_names    rule 7 where 224 quarters of this week were driving, rule 8 where 360 of both were
--   weeks_after    one quarter on, where it is allowed
--   remade_weeks   the row itself where it is a state's, else the opened one
use Rattle.std.specs.Prelude.{ℕ, ◌+◌, ◌%◌, ◌≤◌, Bool, cond, ◌&&◌, Some, None, Option, ◌==◌, nat_le}
use Rattle.duty.specs.declared.Duty.{Duty}
use Rattle.duty.specs.declared.Duty.TheVariants.{Rest, Work, Drive}
use Rattle.duty.specs.Duties.{driving}
use Rattle.rules.specs.declared.breach.Violation.{Violation}
use Rattle.rules.specs.Layers.{moved}
use Rattle.books.specs.declared.weeks.WeeksState.{WeeksState}
use Rattle.books.specs.declared.weeks.row.WeeksRow.{WeeksRow}

pub record WeeksNoWorse (a b : WeeksRow) : Type 0 where
  pub this : a.this ≤ b.this
  pub last : a.last ≤ b.last

abbrev pub weeks_row : WeeksState → WeeksRow
weeks_row b = b.row

abbrev pub opened_weeks : WeeksRow
opened_weeks = record { this = 0; last = 0 }

abbrev pub next_weeks : WeeksRow → ℕ → Duty → WeeksRow
next_weeks s q x =
    cond (q % 672 == 671)
    (record { this = 0; last = s.this + cond (driving x) 1 0 })
    (record { this = s.this + cond (driving x) 1 0; last = s.last })

abbrev pub weeks_names : WeeksRow → ℕ → Duty → Option Violation
weeks_names s q Rest = None
weeks_names s q Work = None
weeks_names s q Drive =
    cond (nat_le 224 s.this) (Some (record { rule = 7; layer = 1 })) (cond (nat_le 360 (s.this + s.last)) (Some (record { rule = 8; layer = 1 })) None)

abbrev pub weeks_after : WeeksRow → ℕ → Duty → WeeksRow
weeks_after s q x = moved (weeks_names s q x) (next_weeks s q x) s

-- whether a row is a state's
abbrev pub fits_weeks : WeeksRow → Bool
fits_weeks s = nat_le s.this 224 && nat_le s.last 224

abbrev pub remade_weeks : WeeksRow → WeeksRow
remade_weeks s = cond (fits_weeks s) s opened_weeks

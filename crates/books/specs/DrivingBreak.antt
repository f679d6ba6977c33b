-- The break from driving as a state machine. Assumes nothing.
--   NoWorseBreak a b   the same figures, no more driven, and no shorter a pause
--   break_names        rule 5 where the driving since the latest pause has reached the limit
--   next_break         one quarter on: a pause that gets full ends the count
--   given_break        the state before quarter 0, each figure taken as the nearest in 1 to 96
use Rattle.std.specs.Prelude.{◌≡◌, ℕ, ◌+◌, ◌≤◌, min, max, Bool, cond, ◌&&◌, ◌||◌, Some, None, Option, ◌==◌, nat_le, nat_lt}
use Rattle.duty.specs.declared.Duty.{Duty}
use Rattle.duty.specs.declared.Duty.TheVariants.{Rest, Work, Drive}
use Rattle.duty.specs.Duties.{driving}
use Rattle.duty.specs.Runs.{next_run}
use Rattle.rules.specs.declared.breach.Violation.{Violation}
use Rattle.rules.specs.Layers.{moved}
use Rattle.books.specs.declared.driving_break.BreakState.{BreakState}
use Rattle.books.specs.declared.driving_break.row.BreakRow.{BreakRow}
use Rattle.books.specs.declared.pause.Pause.{Pause}
use Rattle.books.specs.Pauses.{pauses}

abbrev pub break_row : BreakState → BreakRow
break_row b = b.row

pub record NoWorseBreak (a b : BreakRow) : Type 0 where
  pub limit : a.limit ≡ b.limit
  pub length : a.length ≡ b.length
  pub kind : a.kind ≡ b.kind
  pub driven : a.driven ≤ b.driven
  pub pause : b.pause ≤ a.pause

abbrev pub opened_break : ℕ → ℕ → Pause → BreakRow
opened_break limit len kind = record { limit = limit; length = len; kind = kind; driven = 0; pause = len }

abbrev pub given_break : ℕ → ℕ → Pause → BreakRow
given_break limit len kind = opened_break (min (max limit 1) 96) (min (max len 1) 96) kind

abbrev pub break_names : BreakRow → ℕ → Duty → Option Violation
break_names s q Rest = None
break_names s q Work = None
break_names s q Drive = cond (nat_le s.limit s.driven) (Some (record { rule = 5; layer = 1 })) None

abbrev pub next_break : BreakRow → Duty → BreakRow
next_break s x = record {
  limit = s.limit;
  length = s.length;
  kind = s.kind;
  driven = cond (next_run s.length s.pause (pauses s.kind x) == s.length) 0 (s.driven + cond (driving x) 1 0);
  pause = next_run s.length s.pause (pauses s.kind x);
}

abbrev pub break_after : BreakRow → ℕ → Duty → BreakRow
break_after s q x = moved (break_names s q x) (next_break s x) s

-- whether a row is a state's
abbrev pub fits_break : BreakRow → Bool
fits_break s = nat_le 1 s.limit && nat_le s.limit 96 && nat_le 1 s.length && nat_le s.length 96 && nat_le s.driven s.limit && nat_le s.pause s.length && (nat_lt s.pause s.length || s.driven == 0)

abbrev pub remade_break : BreakRow → BreakRow
remade_break s = cond (fits_break s) s (given_break s.limit s.length s.kind)

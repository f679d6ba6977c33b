-- What the figures of each book's state keep to; beside a full run every count is 0. Assumes nothing.
--   PeriodSound elapsed driven full   a period with limits of that many quarters, and with a full rest of that many
--   most_on days restart rest i       the most that can be on duty i days back
use Rattle.std.specs.Prelude.{◌≡◌, ℕ, ◌≤◌, cond, ◌&&◌, List, nat_lt, slice_index}
use Rattle.books.specs.declared.driving_break.row.BreakRow.{BreakRow}
use Rattle.books.specs.declared.duty_cycle.row.CycleRow.{CycleRow}
use Rattle.books.specs.declared.period.PeriodRow.{PeriodRow}
use Rattle.books.specs.declared.weekly_rest.row.WeeklyRestRow.{WeeklyRestRow}
use Rattle.books.specs.declared.weeks.row.WeeksRow.{WeeksRow}

abbrev pub PeriodSound : ℕ → ℕ → ℕ → PeriodRow → Type 0
PeriodSound elapsed driven full s =
    (s.elapsed ≤ elapsed) × (s.driven ≤ driven) × (s.rest ≤ full) × (s.rest ≡ full → s.elapsed ≡ 0) × (s.rest ≡ full → s.driven ≡ 0)

abbrev pub ShiftSound : PeriodRow → Type 0
ShiftSound s = PeriodSound 56 44 40 s

abbrev pub DaySound : PeriodRow → Type 0
DaySound s = PeriodSound 52 36 44 s

-- the figures that a break can be given
abbrev pub BreakFigures : ℕ → ℕ → Type 0
BreakFigures limit len = (1 ≤ limit) × (limit ≤ 96) × (1 ≤ len) × (len ≤ 96)

abbrev pub BreakSound : BreakRow → Type 0
BreakSound s = BreakFigures s.limit s.length × (s.driven ≤ s.limit) × (s.pause ≤ s.length) × (s.pause ≡ s.length → s.driven ≡ 0)

-- the days and the limit that a cycle can be given
abbrev pub CycleFigures : ℕ → ℕ → Type 0
CycleFigures days limit = (1 ≤ days) × (days ≤ 8) × (1 ≤ limit) × (limit ≤ 768)

-- the restart that it can be given, and the rest run beside it
abbrev pub CycleRest : ℕ → ℕ → Type 0
CycleRest restart rest = (1 ≤ restart) × (restart ≤ 672) × (rest ≤ restart)

-- a whole day, or nothing where that day is not counted or the run is full
abbrev pub most_on : ℕ → ℕ → ℕ → ℕ → ℕ
most_on days restart rest i = cond (nat_lt i days && nat_lt rest restart) 96 0

abbrev pub CycleCounts : ℕ → ℕ → List ℕ → ℕ → Type 0
CycleCounts days restart duty rest = (i : ℕ) → slice_index duty i ≤ most_on days restart rest i

abbrev pub CycleSound : CycleRow → Type 0
CycleSound s = CycleFigures s.days s.limit × CycleRest s.restart s.rest × CycleCounts s.days s.restart s.duty s.rest

abbrev pub WeeksSound : WeeksRow → Type 0
WeeksSound s = (s.this ≤ 224) × (s.last ≤ 224)

abbrev pub WeeklyRestSound : WeeklyRestRow → Type 0
WeeklyRestSound s = (s.elapsed ≤ 576) × (s.rest ≤ 180) × (s.rest ≡ 180 → s.elapsed ≡ 0)

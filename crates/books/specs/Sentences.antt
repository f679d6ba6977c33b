-- The rules, as sentences about a whole log l and a quarter q of it. Assumes nothing.
--   Since len l q s      s is the first quarter after the latest rest run of at least len quarters that ended before q, q on duty
--   day, week            a day has 96 quarters, a week 672; day 0 and week 0 begin at quarter 0
--   Rule                 the rules, with the figures that a rule set gives them
--   Keeps rule l q       quarter q keeps the rule
use Rattle.std.specs.Prelude.{◌≡◌, ℕ, ◌+◌, ◌-◌, ◌*◌, ◌/◌, ◌≤◌, max, true, List}
use Rattle.duty.specs.declared.Duty.{Duty}
use Rattle.duty.specs.declared.Duty.TheVariants.{Drive}
use Rattle.duty.specs.Duties.{resting, driving, working}
use Rattle.duty.specs.Logs.{at, Latest, count}
use Rattle.books.specs.declared.pause.Pause.{Pause}
use Rattle.books.specs.Pauses.{pauses}

abbrev pub Since : ℕ → List Duty → ℕ → ℕ → Type 0
Since len l q s = Latest resting l len q s

abbrev pub Driving : List Duty → ℕ → Type 0
Driving l q = at l q ≡ Drive

-- work or driving
abbrev pub OnDuty : List Duty → ℕ → Type 0
OnDuty l q = working (at l q) ≡ true

-- the first quarter of the latest n days, the day of q being one
abbrev pub days_from : ℕ → ℕ → ℕ
days_from n q = 96 * (q / 96 + 1 - n)

pub data Rule : Type 0 where
  -- US shift
  shift_elapsed : Rule
  shift_driving : Rule
  -- a break: the limit, the length of the pause and its kind
  driving_break : ℕ → ℕ → Pause → Rule
  -- a cycle: the number of days, the limit and the length of the restart
  duty_cycle : ℕ → ℕ → ℕ → Rule
  -- EU day
  day_elapsed : Rule
  day_driving : Rule
  -- EU weeks: one week, and two in a row
  week_driving : Rule
  fortnight_driving : Rule
  -- EU weekly rest
  weekly_rest : Rule

-- the number by which a breach names the rule
abbrev pub rule_number : Rule → ℕ
rule_number shift_elapsed = 1
rule_number shift_driving = 2
rule_number (driving_break limit len kind) = 5
rule_number (duty_cycle days limit restart) = 6
rule_number day_elapsed = 3
rule_number day_driving = 4
rule_number week_driving = 7
rule_number fortnight_driving = 8
rule_number weekly_rest = 9

abbrev pub Keeps : Rule → List Duty → ℕ → Type 0
Keeps shift_elapsed l q = Driving l q → (s : ℕ) → Since 40 l q s → q - s + 1 ≤ 56
Keeps shift_driving l q = Driving l q → (s : ℕ) → Since 40 l q s → count driving l s (q + 1) ≤ 44
Keeps (driving_break limit len kind) l q = Driving l q → (s : ℕ) → Latest (pauses kind) l len q s → count driving l s (q + 1) ≤ limit
Keeps (duty_cycle days limit restart) l q = Driving l q → (s : ℕ) → Since restart l q s → count working l (max s (days_from days q)) (q + 1) ≤ limit
Keeps day_elapsed l q = OnDuty l q → (s : ℕ) → Since 44 l q s → q - s + 1 ≤ 52
Keeps day_driving l q = Driving l q → (s : ℕ) → Since 44 l q s → count driving l s (q + 1) ≤ 36
Keeps week_driving l q = Driving l q → count driving l (672 * (q / 672)) (q + 1) ≤ 224
Keeps fortnight_driving l q = Driving l q → count driving l (672 * (q / 672 - 1)) (q + 1) ≤ 360
Keeps weekly_rest l q = OnDuty l q → (s : ℕ) → Since 180 l q s → q - s + 1 ≤ 576

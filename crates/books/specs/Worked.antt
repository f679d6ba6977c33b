-- Worked cases of the rule sets: logs that are lawful, and logs with their first breach. Assumes nothing.
--   us7, us8, eu             the sentences of the named sets
--   breach q rule layer      a breach
use Rattle.std.specs.Prelude.{ℕ, List, ◌++◌, replicate}
use Rattle.duty.specs.declared.Duty.{Duty}
use Rattle.duty.specs.declared.Duty.TheVariants.{Rest, Work, Drive}
use Rattle.rules.specs.declared.breach.Breach.{Breach}
use Rattle.books.specs.declared.sets.RuleSet.TheVariants as set
use Rattle.books.specs.Names.{sentences}
use Rattle.books.specs.Sentences.{Rule}
use Rattle.books.specs.Sets.{Lawful, FirstBreach}

abbrev pub us7 : List (List Rule)
us7 = sentences set.Us7

abbrev pub us8 : List (List Rule)
us8 = sentences set.Us8

abbrev pub eu : List (List Rule)
eu = sentences set.Eu

abbrev pub breach : ℕ → ℕ → ℕ → Breach
breach q rule layer = record { quarter = q; rule = rule; layer = layer }

abbrev pub R : ℕ → List Duty
R n = replicate n Rest

abbrev pub W : ℕ → List Duty
W n = replicate n Work

abbrev pub D : ℕ → List Duty
D n = replicate n Drive

-- thirteen hours of work and eleven of rest, on six days
abbrev pub six_days : List Duty
six_days = W 52 ++ R 44 ++ W 52 ++ R 44 ++ W 52 ++ R 44 ++ W 52 ++ R 44 ++ W 52 ++ R 44 ++ W 52 ++ R 44

pub record Worked : Type 0 where
  pub long_drive : FirstBreach us7 (D 33) (breach 32 5 2)
  pub drive : Lawful us7 (D 32)
  pub twelfth_hour : FirstBreach us8 (D 32 ++ W 2 ++ D 13) (breach 46 2 1)
  pub eleven_hours : Lawful us8 (D 32 ++ W 2 ++ D 12)
  pub late_drive : FirstBreach us7 (W 56 ++ D 1) (breach 56 1 1)
  pub last_drive : Lawful us7 (W 55 ++ D 1)
  pub sixty_hours : FirstBreach us7 (W 240 ++ R 40 ++ D 1) (breach 280 6 3)
  pub seventy_hours : Lawful us8 (W 240 ++ R 40 ++ D 1)
  pub short_restart : FirstBreach us7 (W 240 ++ R 135 ++ D 1) (breach 375 6 3)
  pub restart : Lawful us7 (W 240 ++ R 136 ++ D 1)
  pub tenth_hour : FirstBreach eu (D 18 ++ R 3 ++ D 18 ++ R 3 ++ D 1) (breach 42 4 1)
  pub short_break : FirstBreach eu (D 18 ++ R 2 ++ D 1) (breach 20 5 2)
  pub seventh_day : FirstBreach eu (six_days ++ W 1) (breach 576 9 4)

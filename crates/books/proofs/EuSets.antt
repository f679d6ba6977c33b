-- The EU set: its book keeps just the sentences of its layers.
use Rattle.std.proofs.Common.{◌≡◌, ℕ, List, [], ◌∷◌, Option, Result, refl, subst, arith}
use Rattle.duty.specs.declared.Duty.{Duty}
use Rattle.rules.specs.declared.breach.Breach.{Breach}
use Rattle.rules.specs.declared.refusal.Refusal.{Refusal}
use Rattle.rules.specs.Judged.{Judged}
use Rattle.books.specs.declared.pause.Pause.TheVariants as kind
use Rattle.books.specs.DrivingBreak.{break_names, break_after, opened_break}
use Rattle.books.specs.EuDay.{day_names, day_after, opened_day}
use Rattle.books.specs.EuWeeks.{weeks_names, weeks_after, opened_weeks}
use Rattle.books.specs.Names.{eu_rules}
use Rattle.books.specs.Machines.{EuRow, eu_low_names, eu_low_after, eu_mid_names, eu_mid_after, eu_names, eu_after}
use Rattle.books.specs.Piles.{opened_eu}
use Rattle.books.specs.Sets.{placed, Lawful, break_rules, day_rules, weeks_rules, weekly_rest_rules}
use Rattle.books.specs.Verdicts.{JudgedBy}
use Rattle.books.specs.WeeklyRest.{weekly_rest_names, weekly_rest_after, opened_weekly_rest}
use Rattle.books.specs.Breaks.{break_tied}
use Rattle.books.specs.EuDays.{day_tied}
use Rattle.books.proofs.Judging.{judged_by}
use Rattle.books.specs.LongRest.{weekly_rest_tied}
use Rattle.books.proofs.Piled.{Piled, bottom, over}
use Rattle.books.proofs.Sorting.{ascending_sorted}
use Rattle.books.specs.TwoWeeks.{weeks_tied}

-- what the pile's own functions mean by lawful, and by opening
abbrev pub EuLawful : EuRow → List Duty → Type 0
EuLawful s l =
    ((Lawful (day_rules ∷ []) l × Lawful (break_rules s.below.below.own.limit s.below.below.own.length s.below.below.own.kind ∷ []) l) × Lawful (weeks_rules ∷ []) l)
    × Lawful (weekly_rest_rules ∷ []) l

abbrev pub eu_opened : EuRow → EuRow
eu_opened s = record {
  own = opened_weekly_rest;
  below = record {
    own = opened_weeks;
    below = record { own = opened_break s.below.below.own.limit s.below.below.own.length s.below.below.own.kind; below = opened_day };
  };
}

pub eu-piled : Piled eu_names eu_after opened_eu eu_rules (EuLawful opened_eu)
eu-piled =
    over weekly_rest_names weekly_rest_after opened_weekly_rest weekly_rest_rules weekly_rest_tied eu_mid_names eu_mid_after _ _ _
    (over weeks_names weeks_after opened_weeks weeks_rules weeks_tied eu_low_names eu_low_after _ _ _
    (over break_names break_after (opened_break 18 3 kind.Rest) (break_rules 18 3 kind.Rest) (break_tied 18 3 kind.Rest) day_names day_after _ _ _
    (bottom day_names day_after opened_day day_rules day_tied)
    (omega arith))
    (omega arith))
    (omega arith)

-- what the judge finds by the pile's own functions is what the sentences say
pub eu-judged : (s : EuRow) → s ≡ opened_eu → (bytes : List ℕ) (r : Result (ℕ × Option Breach) Refusal) → Judged eu_names eu_after (eu_opened s) (EuLawful s) bytes r → JudgedBy eu_rules bytes r
eu-judged s e bytes r h =
    judged_by eu_names eu_after opened_eu eu_rules eu-piled.tied (ascending_sorted (placed 1 eu_rules) refl) (EuLawful opened_eu) eu-piled.allowed bytes r
    (subst (λ t. Judged eu_names eu_after (eu_opened t) (EuLawful t) bytes r) e h)

-- The US sets: their books keep just the sentences of their layers.
use Rattle.std.proofs.Common.{◌≡◌, ℕ, ◌≤◌, List, [], ◌∷◌, Option, Result, refl, subst, arith}
use Rattle.duty.specs.declared.Duty.{Duty}
use Rattle.rules.specs.declared.breach.Breach.{Breach}
use Rattle.rules.specs.declared.refusal.Refusal.{Refusal}
use Rattle.rules.specs.Judged.{Judged}
use Rattle.books.specs.declared.pause.Pause.TheVariants as kind
use Rattle.books.specs.DrivingBreak.{break_names, break_after, opened_break}
use Rattle.books.specs.DutyCycle.{cycle_names, cycle_after, opened_cycle}
use Rattle.books.specs.Names.{us_rules}
use Rattle.books.specs.Machines.{UsRow, us_low_names, us_low_after, us_names, us_after}
use Rattle.books.specs.Piles.{opened_us}
use Rattle.books.specs.Sets.{placed, Lawful, shift_rules, break_rules, cycle_rules}
use Rattle.books.specs.UsShift.{shift_names, shift_after, opened_shift}
use Rattle.books.specs.Verdicts.{JudgedBy}
use Rattle.books.specs.Breaks.{break_tied}
use Rattle.books.specs.Cycles.{cycle_tied}
use Rattle.books.proofs.Judging.{judged_by}
use Rattle.books.proofs.Piled.{Piled, bottom, over}
use Rattle.books.specs.Shift.{shift_tied}
use Rattle.books.proofs.Sorting.{ascending_sorted}

-- what the pile's own functions mean by lawful, and by opening
abbrev pub UsLawful : UsRow → List Duty → Type 0
UsLawful s l =
    (Lawful (shift_rules ∷ []) l × Lawful (break_rules s.below.own.limit s.below.own.length s.below.own.kind ∷ []) l)
    × Lawful (cycle_rules s.own.days s.own.limit s.own.restart ∷ []) l

abbrev pub us_opened : UsRow → UsRow
us_opened s = record {
  own = opened_cycle s.own.days s.own.limit s.own.restart;
  below = record { own = opened_break s.below.own.limit s.below.own.length s.below.own.kind; below = opened_shift };
}

module _ (days limit : ℕ) (some : 1 ≤ days) (few : days ≤ 8) where
  pub us_piled : Piled us_names us_after (opened_us days limit) (us_rules days limit) (UsLawful (opened_us days limit))
  us_piled =
      over cycle_names cycle_after (opened_cycle days limit 136) (cycle_rules days limit 136) (cycle_tied days limit 136 some few) us_low_names us_low_after _ _ _
      (over break_names break_after (opened_break 32 2 kind.OffWheel) (break_rules 32 2 kind.OffWheel) (break_tied 32 2 kind.OffWheel) shift_names shift_after _ _ _
      (bottom shift_names shift_after opened_shift shift_rules shift_tied)
      (omega arith))
      (omega arith)

  -- what the judge finds by the pile's own functions is what the sentences say
  pub us_judged : (s : UsRow) → s ≡ opened_us days limit → (bytes : List ℕ) (r : Result (ℕ × Option Breach) Refusal) → Judged us_names us_after (us_opened s) (UsLawful s) bytes r → JudgedBy (us_rules days limit) bytes r
  us_judged s e bytes r h =
      judged_by us_names us_after (opened_us days limit) (us_rules days limit) us_piled.tied (ascending_sorted (placed 1 (us_rules days limit)) refl) (UsLawful (opened_us days limit)) us_piled.allowed bytes r
      (subst (λ t. Judged us_names us_after (us_opened t) (UsLawful t) bytes r) e h)

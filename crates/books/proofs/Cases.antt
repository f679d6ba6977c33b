-- The worked cases, computed by the books that keep the sentences.
use Rattle.std.proofs.Common.{◌≡◌, ℕ, ◌<◌, ◌≤◌, true, List, length, take, Some, refl, lit<, lit≤}
use Rattle.duty.specs.declared.Duty.{Duty}
use Rattle.duty.specs.Logs.{at}
use Rattle.rules.specs.declared.breach.Breach.{Breach}
use Rattle.rules.specs.Judged.{breach_at}
use Rattle.rules.specs.Walk.{led}
use Rattle.rules.proofs.Allows.{allows}
use Rattle.books.specs.Piles.{opened_us, opened_eu}
use Rattle.books.specs.Sets.{placed, Lawful, FirstBreach}
use Rattle.books.specs.Names.{us_rules}
use Rattle.books.specs.Worked.{eu, breach, Worked}
use Rattle.books.proofs.EuSets.{eu-piled}
use Rattle.books.proofs.Judging.{computed_lawful, computed_breach}
use Rattle.books.proofs.Sorting.{ascending_sorted}
use Rattle.books.proofs.UsSets.{us_piled}
use Rattle.books.specs.Machines.{us_names, us_after, eu_names, eu_after}

module _ (days limit : ℕ) (some : 1 ≤ days) (few : days ≤ 8) where
  us_lawful : (l : List Duty) → allows us_names us_after (opened_us days limit) 0 l ≡ true → Lawful (us_rules days limit) l
  us_lawful = computed_lawful us_names us_after (opened_us days limit) (us_rules days limit) (us_piled days limit some few).tied (ascending_sorted (placed 1 (us_rules days limit)) refl)

  us_breach : (l : List Duty) (b : Breach) → b.quarter < length l → allows us_names us_after (opened_us days limit) 0 (take b.quarter l) ≡ true → breach_at b.quarter (us_names (led us_after (opened_us days limit) 0 (take b.quarter l)) b.quarter (at l b.quarter)) ≡ Some b → FirstBreach (us_rules days limit) l b
  us_breach = computed_breach us_names us_after (opened_us days limit) (us_rules days limit) (us_piled days limit some few).tied (ascending_sorted (placed 1 (us_rules days limit)) refl)

eu-breach : (l : List Duty) (b : Breach) → b.quarter < length l → allows eu_names eu_after opened_eu 0 (take b.quarter l) ≡ true → breach_at b.quarter (eu_names (led eu_after opened_eu 0 (take b.quarter l)) b.quarter (at l b.quarter)) ≡ Some b → FirstBreach eu l b
eu-breach = computed_breach eu_names eu_after opened_eu eu eu-piled.tied (ascending_sorted (placed 1 eu) refl)

pub worked : Worked
worked = record {
  long_drive = us_breach 7 240 (lit≤ tt) (lit≤ tt) _ (breach 32 5 2) (lit< tt) refl refl;
  drive = us_lawful 7 240 (lit≤ tt) (lit≤ tt) _ refl;
  twelfth_hour = us_breach 8 280 (lit≤ tt) (lit≤ tt) _ (breach 46 2 1) (lit< tt) refl refl;
  eleven_hours = us_lawful 8 280 (lit≤ tt) (lit≤ tt) _ refl;
  late_drive = us_breach 7 240 (lit≤ tt) (lit≤ tt) _ (breach 56 1 1) (lit< tt) refl refl;
  last_drive = us_lawful 7 240 (lit≤ tt) (lit≤ tt) _ refl;
  sixty_hours = us_breach 7 240 (lit≤ tt) (lit≤ tt) _ (breach 280 6 3) (lit< tt) refl refl;
  seventy_hours = us_lawful 8 280 (lit≤ tt) (lit≤ tt) _ refl;
  short_restart = us_breach 7 240 (lit≤ tt) (lit≤ tt) _ (breach 375 6 3) (lit< tt) refl refl;
  restart = us_lawful 7 240 (lit≤ tt) (lit≤ tt) _ refl;
  tenth_hour = eu-breach _ (breach 42 4 1) (lit< tt) refl refl;
  short_break = eu-breach _ (breach 20 5 2) (lit< tt) refl refl;
  seventh_day = eu-breach _ (breach 576 9 4) (lit< tt) refl refl;
}

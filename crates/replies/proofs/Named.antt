-- The promise under the named sets, in the words of their sentences.
use Rattle.std.proofs.Common.{◌≡◌, ℕ, ◌≤◌, List, refl, subst, lit≤}
use Rattle.duty.specs.declared.Duty.{Duty}
use Rattle.books.specs.Sets.{placed, Lawful}
use Rattle.books.specs.Tied.{allowed-lawful}
use Rattle.books.specs.declared.sets.RuleSet.TheVariants as set
use Rattle.books.specs.Machines.{UsRow, us_names, us_after, us_better, EuRow, eu_names, eu_after, eu_better}
use Rattle.books.specs.Names.{us_rules, eu_rules}
use Rattle.books.specs.Piles.{opened_us, opened_eu}
use Rattle.books.proofs.EuSets.{EuLawful, eu_opened, eu-piled}
use Rattle.books.proofs.Sorting.{ascending_sorted}
use Rattle.books.proofs.UsSets.{UsLawful, us_opened, us_piled}
use Rattle.planner.specs.declared.call.Call.{Call}
use Rattle.planner.specs.History.{fresh}
use Rattle.planner.specs.Promise.{Answer, Kept}
use Rattle.replies.specs.Promised.{BreachesFirst}
use Rattle.replies.proofs.Breaches.{recorded-first}
use Rattle.replies.proofs.Meanings.{kept_so}

module _ (days limit : ℕ) (some : 1 ≤ days) (few : days ≤ 8) where
  us_to : (l : List Duty) → UsLawful (opened_us days limit) l → Lawful (us_rules days limit) l
  us_to l h =
      allowed-lawful us_names us_after (opened_us days limit) (us_rules days limit) (us_piled days limit some few).tied l ((us_piled days limit some few).allowed l h)

  pub us_kept : (s : UsRow) → s ≡ opened_us days limit → (calls : List Call) (answers : List Answer) → Kept us_names us_after us_better (us_opened s) (UsLawful s) fresh calls answers → Kept us_names us_after us_better (opened_us days limit) (Lawful (us_rules days limit)) fresh calls answers
  us_kept s e calls answers k =
      kept_so us_names us_after us_better (opened_us days limit) (UsLawful (opened_us days limit)) (Lawful (us_rules days limit)) us_to (us_piled days limit some few).found fresh calls answers
      (subst (λ t. Kept us_names us_after us_better (us_opened t) (UsLawful t) fresh calls answers) e k)

eu_to : (l : List Duty) → EuLawful opened_eu l → Lawful eu_rules l
eu_to l h = allowed-lawful eu_names eu_after opened_eu eu_rules eu-piled.tied l (eu-piled.allowed l h)

pub eu-kept : (s : EuRow) → s ≡ opened_eu → (calls : List Call) (answers : List Answer) → Kept eu_names eu_after eu_better (eu_opened s) (EuLawful s) fresh calls answers → Kept eu_names eu_after eu_better opened_eu (Lawful eu_rules) fresh calls answers
eu-kept s e calls answers k =
    kept_so eu_names eu_after eu_better opened_eu (EuLawful opened_eu) (Lawful eu_rules) eu_to eu-piled.found fresh calls answers
    (subst (λ t. Kept eu_names eu_after eu_better (eu_opened t) (EuLawful t) fresh calls answers) e k)

-- a record that breaks a rule is refused with the first breach by the sentences
pub breaches_first : BreachesFirst
breaches_first set.Us7 h h' letter count x b spelt k =
    recorded-first us_names us_after us_better (opened_us 7 240) (us_rules 7 240) (us_piled 7 240 (lit≤ tt) (lit≤ tt)).tied (ascending_sorted (placed 1 (us_rules 7 240)) refl) h h' letter count x b spelt k
breaches_first set.Us8 h h' letter count x b spelt k =
    recorded-first us_names us_after us_better (opened_us 8 280) (us_rules 8 280) (us_piled 8 280 (lit≤ tt) (lit≤ tt)).tied (ascending_sorted (placed 1 (us_rules 8 280)) refl) h h' letter count x b spelt k
breaches_first set.Eu h h' letter count x b spelt k =
    recorded-first eu_names eu_after eu_better opened_eu eu_rules eu-piled.tied (ascending_sorted (placed 1 eu_rules) refl) h h' letter count x b spelt k

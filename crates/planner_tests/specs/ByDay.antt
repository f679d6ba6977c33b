-- The carrier's book names nothing along a log exactly when every driving quarter lies in the day.
use Rattle.std.specs.Prelude.{◌≡◌, ℕ, ◌%◌, Bool, true, false, cond, List, length, take, None, Option, nat_le, refl}
use Rattle.std.proofs.Common.{sym, ap, subst, ◌∙◌, arith}
use Rattle.std.proofs.lemmas.List.{take_all}
use Rattle.std.proofs.lemmas.Bool.{cond-true, cond-false, leb-true, leb-false, le-leb, lt-leb}
use Rattle.duty.specs.declared.Duty.{Duty}
use Rattle.duty.specs.declared.Duty.TheVariants.{Rest, Work, Drive}
use Rattle.duty.specs.Logs.{at}
use Rattle.rules.specs.declared.breach.Violation.{Violation}
use Rattle.rules.specs.Walk.{Allowed}
use Rattle.rules.proofs.Along.{along_allowed, along_each}
use Rattle.rules.specs.LayersLemmas.{some-none}
use Rattle.planner_tests.specs.Daytime.{ByDay, AllByDay, night, day_names}

unnamed : (q : ℕ) (x : Duty) → (x ≡ Drive → ByDay q) → day_names q x ≡ None
unnamed q Rest h = refl
unnamed q Work h = refl
unnamed q Drive h =
    let d = h refl in
    cond-true _ _ _ (le-leb 24 (q % 96) d.from) ∙ cond-false _ _ _ (lt-leb 80 (q % 96) d.until)

by_day : (q : ℕ) → day_names q Drive ≡ None → ByDay q
by_day q e = go (nat_le 24 (q % 96)) (nat_le 80 (q % 96)) refl refl e
  where
    go : (a b : Bool) → nat_le 24 (q % 96) ≡ a → nat_le 80 (q % 96) ≡ b → cond a (cond b night None) night ≡ None → ByDay q
    go true false late early h = record { from = leb-true _ _ late; until = leb-false _ _ early }
    go true true late early h = absurd (some-none _ h)
    go false b late early h = absurd (some-none _ h)

module _ {S : Type 0} (s : S) (l : List Duty) where
  abbrev names : S → ℕ → Duty → Option Violation
  names _ q x = day_names q x

  abbrev after : S → ℕ → Duty → S
  after t _ _ = t

  all : take (length l) l ≡ l
  all = take_all (length l) l (omega arith)

  pub lawful-allowed : AllByDay l → Allowed names after s 0 l
  lawful-allowed h =
      subst (Allowed names after s 0) all
      (along_allowed names after s l (λ _. s) refl (λ k none. refl) (length l) (omega arith) (λ k lt. unnamed k (at l k) (h k lt)))

  pub allowed-lawful : Allowed names after s 0 l → AllByDay l
  allowed-lawful a q lt drives =
      let none = along_each names after s l (λ _. s) refl (λ k none. refl) (length l) (omega arith) (subst (Allowed names after s 0) (sym all) a) q lt in
      by_day q (ap (day_names q) (sym drives) ∙ none)

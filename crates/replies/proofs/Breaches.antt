-- A breach that refuses a record is the first breach of the log that it would have made.
use Rattle.std.proofs.Common.{◌≡◌, ℕ, ◌+◌, ◌<◌, ◌≤◌, List, ◌++◌, length, take, replicate, Some, Err, Option, sym, ap, ◌∙◌, subst, inl, inr, arith}
use lib.Seq.{take-append-add}
use Rattle.std.proofs.lemmas.List.{get_or-append-add, get_or-replicate, length-append, length-replicate, take-replicate}
use Rattle.duty.specs.declared.Duty.{Duty}
use Rattle.duty.specs.declared.Duty.TheVariants.{Rest}
use Rattle.duty.specs.Duties.{duty_of}
use Rattle.duty.specs.Logs.{at}
use Rattle.rules.specs.declared.breach.Breach.{Breach}
use Rattle.rules.specs.declared.breach.Violation.{Violation}
use Rattle.rules.specs.declared.refusal.Refusal.TheVariants as why
use Rattle.rules.specs.Judged.{breach_at}
use Rattle.rules.specs.Walk.{led, Allowed}
use Rattle.books.specs.Sentences.{Rule}
use Rattle.books.specs.Sets.{placed, Lawful, FirstBreach}
use Rattle.books.specs.Broken.{Sorted}
use Rattle.books.specs.Tied.{Tied, lawful-allowed, breached-first}
use Rattle.planner.specs.History.{History}
use Rattle.planner.specs.Promise.{FirstUnlawful, Recording}

same-breach : (b c : Breach) → why.Breach b ≡ why.Breach c → b ≡ c
same-breach b c e = cc

same_duty : (x y : Duty) (o : Option Duty) → o ≡ Some x → o ≡ Some y → x ≡ y
same_duty x y o p q = cc

module _ {S : Type 0} (names : S → ℕ → Duty → Option Violation) (after : S → ℕ → Duty → S) (better : S → S → Type 0) (opened : S) (set : List (List Rule)) (tied : Tied names after opened set) (sorted : Sorted (placed 1 set)) where
  pub first_by : (h : History) (x : Duty) (count : ℕ) (b : Breach) → FirstUnlawful names after better opened (Lawful set) h x count (why.Breach b) → FirstBreach set (h.log ++ replicate count x) b
  first_by h x count b f =
      let log = h.log in
      let n = f.n in
      let l = log ++ replicate count x in
      let few : n ≤ count = omega (arith, f.within) in
      let front : take (length log + n) l ≡ log ++ replicate n x = take-append-add log (replicate count x) n ∙ ap (λ ys. log ++ ys) (take-replicate n count x few) in
      let there : at l (length log + n) ≡ x = get_or-append-add log (replicate count x) n Rest ∙ get_or-replicate count n x Rest f.within in
      let inside : length log + n < length l = omega (arith, f.within, length-append log (replicate count x), length-replicate count x) in
      let named = f.named in
      let is : breach_at (length log + n) (names (led after opened 0 (log ++ replicate n x)) (length log + n) x) ≡ Some b = named.1 ∙ ap Some (sym (same-breach b named.0 named.2)) in
      breached-first names after opened set tied sorted l (length log + n) b inside
      (subst (Allowed names after opened 0) (sym front) (lawful-allowed names after opened set tied (log ++ replicate n x) f.before))
      (ap (λ k. breach_at (length log + n) (names (led after opened 0 k) (length log + n) (at l (length log + n)))) front
      ∙ ap (λ y. breach_at (length log + n) (names (led after opened 0 (log ++ replicate n x)) (length log + n) y)) there
      ∙ is)

  pub recorded-first : (h h' : History) (letter count : ℕ) (x : Duty) (b : Breach) → duty_of letter ≡ Some x → Recording names after better opened (Lawful set) h letter count (Err (why.Breach b)) h' → FirstBreach set (h.log ++ replicate count x) b
  recorded-first h h' letter count x b spelt (inl one) = absurd (omega (arith, one.0.1))
  recorded-first h h' letter count x b spelt (inr (y, spelt', inl two)) = absurd (omega (arith, two.0.1))
  recorded-first h h' letter count x b spelt (inr (y, spelt', inr (refused, some, fits, first))) =
      first_by h x count b (subst (λ z. FirstUnlawful names after better opened (Lawful set) h z count (why.Breach b)) (same_duty y x _ spelt' spelt) first)

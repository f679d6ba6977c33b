-- From what a search solved to what plan answers, and what it leaves in the working buffers.
use Rattle.std.proofs.Common.{◌≡◌, ℕ, ◌-◌, ◌*◌, ◌≤◌, List, length, take, Ok, Err, Option, Result, ap, ◌∙◌, subst, inl, inr, ⊎_elim, arith}
use Rattle.std.proofs.lemmas.List.{length-map, length-take}
use Rattle.duty.specs.declared.Duty.{Duty}
use Rattle.duty.specs.Duties.{letter_of}
use Rattle.rules.specs.declared.breach.Violation.{Violation}
use Rattle.rules.specs.declared.refusal.Refusal.{Refusal}
use Rattle.planning.specs.declared.Stop.{Stop}
use Rattle.planner.specs.History.{width, span}
use Rattle.planner.specs.Plans.{Unready, Ready, Solved, Schedule, Planned, Left}

module _ {R : Type 0} (names : R → ℕ → Duty → Option Violation) (after : R → ℕ → Duty → R) (better : R → R → Type 0) (stops : List Stop) (start : R) (now : ℕ) where
  pub solved-left : {X : Type 0} (k len : ℕ) (out : List ℕ) (r : Result ℕ Refusal) (before left cleared : List X) → Solved names after better stops start now k len out r → left ≡ cleared → Left r before left cleared
  solved-left k len out (Ok e) before left cleared solved same = same
  solved-left k len out (Err why) before left cleared solved same =
      ((λ early. absurd (⊎_elim (λ ten. omega (arith, ten.0)) (λ eleven. omega (arith, eleven.0)) solved)), (λ _. same))

  unready-not : (labels predecessors output m room : ℕ) (why : Refusal) → Ready stops now labels predecessors output → m ≡ width labels * span stops now → room ≡ span stops now → Unready stops now labels m room why → ⊥
  unready-not labels predecessors output m room why ready trail out (inl six) = omega (arith, ready.stop, ap length six.1)
  unready-not labels predecessors output m room why ready trail out (inr (some, inl (seven, inl few))) = omega (arith, ready.some, few)
  unready-not labels predecessors output m room why ready trail out (inr (some, inl (seven, inr many))) = omega (arith, ready.most, many)
  unready-not labels predecessors output m room why ready trail out (inr (some, inr (few, most, inl eight))) = omega (arith, eight.1)
  unready-not labels predecessors output m room why ready trail out (inr (some, inr (few, most, inr nine))) = omega (arith, nine.2)

  -- with buffers of the lengths that a search uses, the answer is what the search solved
  pub planned-solved : (labels predecessors output n m : ℕ) (out : List ℕ) (r : Result ℕ Refusal) → Ready stops now labels predecessors output → n ≡ labels → m ≡ width labels * span stops now → length out ≡ span stops now → Planned names after better stops start now n m out r → Solved names after better stops start now (width labels) (span stops now) out r
  planned-solved labels predecessors output n m out (Ok e) ready sheet trail room p = subst (λ k. Solved names after better stops start now (width k) (span stops now) out (Ok e)) sheet p.1
  planned-solved labels predecessors output n m out (Err why) ready sheet trail room (inl p) = absurd (unready-not labels predecessors output m (length out) why ready trail room (subst (λ k. Unready stops now k m (length out) why) sheet p))
  planned-solved labels predecessors output n m out (Err why) ready sheet trail room (inr p) = subst (λ k. Solved names after better stops start now (width k) (span stops now) out (Err why)) sheet p.1

  -- the letters stand within the output
  pub schedule-within : (k : ℕ) (out : List ℕ) (e : ℕ) → Schedule names after better stops start now k out e → e - now ≤ length out
  schedule-within k out e s =
      let size : e - now ≡ length s.letters = omega (arith, s.end) in
      let same : length (take (length s.letters) out) ≡ length s.letters = ap length s.written ∙ length-map s.letters letter_of in
      omega (arith, length-take (length s.letters) out)

-- States along a log: where F k is the state before quarter k as long as all is allowed, the log is allowed exactly when each status is at F k.
use Rattle.std.proofs.Common.{◌≡◌, ℕ, zero, suc, ◌+◌, ◌<◌, ◌≤◌, List, [], ◌∷◌, ◌++◌, length, take, None, Option, sym, ap, ◌∙◌, subst, ⊎_elim, add-one, arith}
use Rattle.std.proofs.lemmas.List.{take_more, length-take-le}
use Rattle.std.proofs.lemmas.Bool.{cases_lt}
use Rattle.duty.specs.declared.Duty.{Duty}
use Rattle.duty.specs.declared.Duty.TheVariants.{Rest}
use Rattle.duty.specs.Logs.{at}
use Rattle.rules.specs.Walk.{led, Allowed}
use Rattle.rules.proofs.Walk.{led-push, allowed-push, allowed-front, allowed-last}

module _ {S V : Type 0} (names : S → ℕ → Duty → Option V) (after : S → ℕ → Duty → S) (s : S) (l : List Duty) (F : ℕ → S) (start : F 0 ≡ s) (moves : (k : ℕ) → names (F k) k (at l k) ≡ None → after (F k) k (at l k) ≡ F (suc k)) where
  -- each of the first n statuses is allowed at its state
  abbrev pub Each : ℕ → Type 0
  Each n = (k : ℕ) → k < n → names (F k) k (at l k) ≡ None

  next : (n : ℕ) → n < length l → take (suc n) l ≡ take n l ++ at l n ∷ []
  next n h = ap (λ m. take m l) (sym (add-one n)) ∙ take_more l n Rest h

  end : (n : ℕ) → n < length l → 0 + length (take n l) ≡ n
  end n h = omega (arith, length-take-le n l (omega arith))

  pub along_led : (n : ℕ) → n ≤ length l → Each n → led after s 0 (take n l) ≡ F n
  along_led zero h e = sym start
  along_led (suc n) h e =
      ap (led after s 0) (next n h) ∙ led-push names after (take n l) s 0 (at l n) ∙ ap (λ m. after (led after s 0 (take n l)) m (at l n)) (end n h)
      ∙ ap (λ t. after t n (at l n)) (along_led n (omega arith) (λ k lt. e k (omega arith)))
      ∙ moves n (e n (omega arith))

  pub along_allowed : (n : ℕ) → n ≤ length l → Each n → Allowed names after s 0 (take n l)
  along_allowed zero h e = tt
  along_allowed (suc n) h e =
      let led-there = along_led n (omega arith) (λ k lt. e k (omega arith)) in
      let none = ap (λ t. names t (0 + length (take n l)) (at l n)) led-there ∙ ap (λ m. names (F n) m (at l n)) (end n h) ∙ e n (omega arith) in
      subst (Allowed names after s 0) (sym (next n h)) (allowed-push names after (take n l) s 0 (at l n) (along_allowed n (omega arith) (λ k lt. e k (omega arith))) none)

  pub along_each : (n : ℕ) → n ≤ length l → Allowed names after s 0 (take n l) → Each n
  along_each zero h a k lt = absurd (omega arith)
  along_each (suc n) h a k lt =
      let pushed = subst (Allowed names after s 0) (next n h) a in
      let each : Each n = along_each n (omega arith) (allowed-front names after (take n l) s 0 (at l n) pushed) in
      let here : names (F n) n (at l n) ≡ None =
      sym (ap (λ t. names t (0 + length (take n l)) (at l n)) (along_led n (omega arith) each) ∙ ap (λ m. names (F n) m (at l n)) (end n h))
      ∙ allowed-last names after (take n l) s 0 (at l n) pushed in
      let same : n ≤ k → n ≡ k = λ le. omega arith in
      ⊎_elim (each k) (λ le. subst (λ m. names (F m) m (at l m) ≡ None) (same le) here) (cases_lt k n)

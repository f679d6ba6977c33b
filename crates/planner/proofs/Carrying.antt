-- One status for some quarters: what is known after each of them.
use Rattle.std.proofs.Common.{◌≡◌, ℕ, ◌+◌, ◌-◌, ◌<◌, ◌≤◌, min, [], ◌∷◌, ◌++◌, length, replicate, Some, None, Option, sym, ap, ◌∙◌, subst, arith}
use Rattle.std.proofs.lemmas.List.{length-replicate, replicate_more}
use Rattle.duty.specs.declared.Duty.{Duty}
use Rattle.rules.specs.declared.breach.Violation.{Violation}
use Rattle.rules.specs.Judged.{breach_at}
use Rattle.rules.specs.Walk.{led, Allowed}
use Rattle.rules.proofs.Walk.{led-push, allowed-push}
use Rattle.planner.specs.Recorded.{Breached}

module _ {R : Type 0} (names : R → ℕ → Duty → Option Violation) (after : R → ℕ → Duty → R) (row : R) (now : ℕ) (x : Duty) where
  -- the first n quarters are allowed, and lead to this row
  abbrev pub Held : ℕ → R → Type 0
  Held n t = Allowed names after row now (replicate n x) × (t ≡ led after row now (replicate n x))

  pub carry_more : (q : ℕ) (t t' : R) → now ≤ q → q < 2688 → Held (q - now) t → None ≡ names t (min q 2687) x → t' ≡ after t (min q 2687) x → Held (q + 1 - now) t'
  carry_more q t t' begun early h free e =
      let at : min q 2687 ≡ now + length (replicate (q - now) x) = simp length-replicate (omega arith) in
      let next : q - now + 1 ≡ q + 1 - now = omega arith in
      let pushed : replicate (q - now) x ++ x ∷ [] ≡ replicate (q + 1 - now) x = replicate_more (q - now) x ∙ ap (λ n. replicate n x) next in (
        subst (Allowed names after row now) pushed (allowed-push names after (replicate (q - now) x) row now x h.0 (ap (λ k. names (led after row now (replicate (q - now) x)) k x) (sym at) ∙ ap (λ s. names s (min q 2687) x) (sym h.1) ∙ sym free)),
        e
            ∙ ap (λ s. after s (min q 2687) x) h.1
            ∙ ap (λ k. after (led after row now (replicate (q - now) x)) k x) at
            ∙ sym (led-push names after (replicate (q - now) x) row now x)
            ∙ ap (led after row now) pushed,
      )

  pub carry_breach : (q count : ℕ) (t : R) (v : Violation) → now ≤ q → q < 2688 → q < now + count → Held (q - now) t → Some v ≡ names t (min q 2687) x → Breached names after row now count x (record { quarter = q; rule = v.rule; layer = v.layer })
  carry_breach q count t v begun early within h named =
      let at : min q 2687 ≡ q = omega arith in
      let found : names (led after row now (replicate (q - now) x)) q x ≡ Some v = ap (λ s. names s q x) (sym h.1) ∙ ap (λ k. names t k x) (sym at) ∙ sym named in
      record { begun = begun; within = omega arith; allowed = h.0; named = ap (breach_at q) found }

-- How many quarters of a log have a status with p: `count p l s e` of specs/Logs.antt counts those from s on and before e.
use Rattle.std.proofs.Common.{◌≡◌, ℕ, zero, suc, ◌+◌, ◌-◌, ◌≤◌, Bool, cond, List, refl, ap, inl, inr, add-one, arith}
use Rattle.std.proofs.lemmas.Bool.{cases_lt, le-leb, lt-leb}
use Rattle.std.proofs.lemmas.Bool.Decides.{nat_tests}
use Rattle.duty.specs.declared.Duty.{Duty}
use Rattle.duty.specs.Logs.{at, count}

module _ (p : Duty → Bool) (l : List Duty) where
  pub count_more : (s e : ℕ) → s ≤ e → count p l s (suc e) ≡ cond (p (at l e)) 1 0 + count p l s e
  count_more s e h = rw (le-leb s e h) refl

  pub count_more_one : (s e : ℕ) → s ≤ e → count p l s (e + 1) ≡ cond (p (at l e)) 1 0 + count p l s e
  count_more_one s e h = rw add-one (count_more s e h)

  pub count_none : (s e : ℕ) → e ≤ s → count p l s e ≡ 0
  count_none s zero h = refl
  count_none s (suc e) h = rw (lt-leb s e h) (omega (arith, count_none s e (omega arith)))

  pub count_bound : (s e : ℕ) → count p l s e ≤ e - s
  count_bound s zero = omega arith
  count_bound s (suc e) = let i = count_bound s e in grind (arith, nat_tests)

  pub count_later : (s t e : ℕ) → s ≤ t → count p l t e ≤ count p l s e
  count_later s t zero h = omega arith
  count_later s t (suc e) h = let i = count_later s t e h in grind (arith, nat_tests)

  -- counted up to a quarter in between, and from there on
  pub count_parts : (s t e : ℕ) → s ≤ t → t ≤ e → count p l s e ≡ count p l s t + count p l t e
  count_parts s t zero h k = omega (arith, count_none s t (omega arith))
  count_parts s t (suc e) h k =
      elim (cases_lt e t) [ inl end ↦ let here : suc e ≡ t = omega arith in omega (arith, ap (count p l s) here, count_none t (suc e) end) | inr mid ↦ omega (arith, count_more s e (omega arith), count_more t e mid, count_parts s t e h mid) ]

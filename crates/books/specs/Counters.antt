-- The counters of the books, as counts of the log: what each is before quarter k, and one quarter on.
--   elapsed_at n held l k    the quarters since the latest rest run of n, held at `held`
--   counted p n c l k        the quarters with c since the latest pause of n
use Rattle.std.specs.Prelude.{◌≡◌, ℕ, suc, ◌+◌, ◌-◌, min, Bool, cond, List, ◌≢◌}
use Rattle.std.proofs.Common.{ap, ◌∙◌, arith}
use Rattle.duty.specs.declared.Duty.{Duty}
use Rattle.duty.specs.Logs.{at, count}
use Rattle.duty.proofs.Counts.{count_more, count_none}
use Rattle.duty.proofs.Runs.{run_at, since_at, since-le, since_full, since_short}

abbrev pub elapsed_at : (Duty → Bool) → ℕ → ℕ → List Duty → ℕ → ℕ
elapsed_at p n held l k = min (k - since_at p n l k) held

abbrev pub counted : (Duty → Bool) → ℕ → (Duty → Bool) → List Duty → ℕ → ℕ
counted p n c l k = count c l (since_at p n l k) k

module _ (p : Duty → Bool) (n : ℕ) (l : List Duty) (k : ℕ) where
  pub elapsed_full : (held : ℕ) → run_at p n l (suc k) ≡ n → elapsed_at p n held l (suc k) ≡ 0
  elapsed_full held e = omega (arith, since_full p n l (suc k) e)

  pub elapsed_more : (held : ℕ) → (run_at p n l (suc k) ≢ n) → elapsed_at p n held l (suc k) ≡ min (elapsed_at p n held l k + 1) held
  elapsed_more held e = omega (arith, since_short p n l k e, since-le p n l k)

  pub counted_full : (c : Duty → Bool) → run_at p n l (suc k) ≡ n → counted p n c l (suc k) ≡ 0
  counted_full c e = count_none c l (since_at p n l (suc k)) (suc k) (omega (arith, since_full p n l (suc k) e))

  pub counted_more : (c : Duty → Bool) → (run_at p n l (suc k) ≢ n) → counted p n c l (suc k) ≡ counted p n c l k + cond (c (at l k)) 1 0
  counted_more c e =
      ap (λ s. count c l s (suc k)) (since_short p n l k e) ∙ count_more c l (since_at p n l k) k (since-le p n l k) ∙ omega arith

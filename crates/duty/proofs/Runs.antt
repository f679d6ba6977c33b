-- Runs of quarters with p, followed from quarter 0 on, and the pauses of a log.
--   run_at p n l k       the run before quarter k: how many quarters just before k have a status with p, at most n; before quarter 0 all do
--   since_at p n l k     the latest quarter up to k at which the run is full, n long
-- Paused and Latest are those of specs/Logs.antt.
use Rattle.std.proofs.Common.{◌≡◌, ℕ, zero, suc, ◌≤◌, Bool, true, cond, eqb, List, refl, inl, inr, arith}
use Rattle.std.proofs.lemmas.Bool.{cases_Bool, cases_eq, cases_order, cond-true, cond-false, cond_both, eq-eqb, ne_eqb, eqb-true}
use Rattle.duty.specs.declared.Duty.{Duty}
use Rattle.duty.specs.Runs.{next_run}
use Rattle.duty.specs.Logs.{at, Paused, Latest}

abbrev pub run_at : (Duty → Bool) → ℕ → List Duty → ℕ → ℕ
run_at p n l zero = n
run_at p n l (suc k) = next_run n (run_at p n l k) (p (at l k))

abbrev pub since_at : (Duty → Bool) → ℕ → List Duty → ℕ → ℕ
since_at p n l zero = zero
since_at p n l (suc k) = cond (eqb (run_at p n l (suc k)) n) (suc k) (since_at p n l k)

module _ (p : Duty → Bool) (n : ℕ) (l : List Duty) where
  pub run_at-le : (k : ℕ) → run_at p n l k ≤ n
  run_at-le zero = omega arith
  run_at-le (suc k) = cond_both (p (at l k)) _ _ (λ r. r ≤ n) (λ _. omega arith) (λ _. omega arith)

  -- a pause of m quarters is a run of m or more
  pub paused-le : (k m : ℕ) → m ≤ n → Paused p l m k → m ≤ run_at p n l k
  paused-le zero m h w = h
  paused-le (suc k) zero h w = omega arith
  paused-le (suc k) (suc m) h w =
      rw (w k (omega arith) (omega arith)) (omega (arith, paused-le k m (omega arith) (λ j a b. w j (omega arith) (omega arith))))

  -- a run that is not 0 after quarter k has grown there
  pub run_grown : (k m : ℕ) → suc m ≤ run_at p n l (suc k) → (p (at l k) ≡ true) × (m ≤ run_at p n l k)
  run_grown k m h =
      elim (cases_Bool (p (at l k))) [ inl e ↦ (e, omega (arith, rw e at h)) | inr e ↦ absurd (omega (arith, rw e at h)) ]

  pub le-paused : (k m : ℕ) → m ≤ run_at p n l k → Paused p l m k
  le-paused zero m h j a b = absurd (omega arith)
  le-paused (suc k) zero h j a b = absurd (omega arith)
  le-paused (suc k) (suc m) h j a b =
      let g = run_grown k m h in
      elim (cases_eq j k) [ inl e ↦ rw e g.0 | inr e ↦ le-paused k m g.1 j (omega arith) (omega arith) ]

  pub paused_run : (s : ℕ) → Paused p l n s → run_at p n l s ≡ n
  paused_run s w = omega (arith, run_at-le s, paused-le s n (omega arith) w)

  pub run_paused : (s : ℕ) → run_at p n l s ≡ n → Paused p l n s
  run_paused s e = le-paused s n (omega arith)

  pub since-le : (k : ℕ) → since_at p n l k ≤ k
  since-le zero = omega arith
  since-le (suc k) = cond_both (eqb (run_at p n l (suc k)) n) _ _ (λ s. s ≤ suc k) (λ _. omega arith) (λ _. omega (arith, since-le k))

  pub since_full : (k : ℕ) → run_at p n l k ≡ n → since_at p n l k ≡ k
  since_full zero e = refl
  since_full (suc k) e = cond-true _ _ _ (eq-eqb _ _ e)

  pub since_short : (k : ℕ) → (run_at p n l (suc k) ≡ n → ⊥) → since_at p n l (suc k) ≡ since_at p n l k
  since_short k e = cond-false _ _ _ (ne_eqb _ _ e)

  pub run_since : (k : ℕ) → run_at p n l (since_at p n l k) ≡ n
  run_since zero = refl
  run_since (suc k) = cond_both (eqb (run_at p n l (suc k)) n) _ _ (λ s. run_at p n l s ≡ n) (eqb-true _ _) (λ _. run_since k)

  -- where the run is full, that quarter or a later one is the latest
  pub full_since : (k t : ℕ) → t ≤ k → run_at p n l t ≡ n → t ≤ since_at p n l k
  full_since zero t h e = h
  full_since (suc k) t h e =
      elim (cases_eq t (suc k)) [ inl i ↦ omega (arith, since_full (suc k) (rw i at e)) | inr i ↦ cond_both (eqb (run_at p n l (suc k)) n) _ _ (λ s. t ≤ s) (λ _. h) (λ _. full_since k t (omega arith) e) ]

  pub latest-since : (q : ℕ) → Latest p l n q (since_at p n l q)
  latest-since q = record {
    by = since-le q;
    pause = run_paused _ (run_since q);
    latest = λ t a b w. omega (arith, full_since q t b (paused_run t w));
  }

  pub latest_one : (q s t : ℕ) → Latest p l n q s → Latest p l n q t → s ≡ t
  latest_one q s t a b =
      elim (cases_order s t) [ inl e ↦ e | inr (inl h) ↦ absurd (a.latest t h b.by b.pause) | inr (inr h) ↦ absurd (b.latest s h a.by a.pause) ]

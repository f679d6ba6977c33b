-- A duty period along a log: its figures before quarter k, and one quarter on.
--   period_at full held l k    the period since the latest rest run of `full`, its quarters held at `held`
use Rattle.std.specs.Prelude.{◌≡◌, ℕ, suc, Bool, true, false, List, ◌==◌, refl}
use Rattle.std.proofs.Common.{sym, ◌∙◌}
use Rattle.std.proofs.lemmas.Bool.{cond-true, cond-false, eqb-true, eqb-false}
use Rattle.duty.specs.declared.Duty.{Duty}
use Rattle.duty.specs.Duties.{resting, driving}
use Rattle.duty.specs.Logs.{at}
use Rattle.duty.proofs.Runs.{run_at}
use Rattle.books.specs.declared.period.PeriodRow.{PeriodRow}
use Rattle.books.specs.Period.{next_period}
use Rattle.books.specs.Counters.{elapsed_at, counted, elapsed_full, elapsed_more, counted_full, counted_more}

abbrev pub period_at : ℕ → ℕ → List Duty → ℕ → PeriodRow
period_at full held l k = record { elapsed = elapsed_at resting full held l k; driven = counted resting full driving l k; rest = run_at resting full l k }

pub period_next : (full held : ℕ) (l : List Duty) (k : ℕ) → next_period full held (period_at full held l k) (at l k) ≡ period_at full held l (suc k)
period_next full held l k = go (run_at resting full l (suc k) == full) refl
  where
    go : (b : Bool) → (run_at resting full l (suc k) == full) ≡ b → next_period full held (period_at full held l k) (at l k) ≡ period_at full held l (suc k)
    go true e =
        let is = eqb-true (run_at resting full l (suc k)) full e in
        cond-true _ _ _ e
        ∙ (λ i. record { elapsed = sym (elapsed_full resting full l k held is) i; driven = sym (counted_full resting full l k driving is) i; rest = run_at resting full l (suc k) })
    go false e =
        let not_yet = eqb-false (run_at resting full l (suc k)) full e in
        cond-false _ _ _ e
        ∙ (λ i. record { elapsed = sym (elapsed_more resting full l k held not_yet) i; driven = sym (counted_more resting full l k driving not_yet) i; rest = run_at resting full l (suc k) })

-- The EU weekly rest keeps just its sentence.
--   weekly_rest_at l k    the quarters since the latest rest run of 180, held at 576, and the run, before quarter k
use Rattle.std.specs.Prelude.{◌≡◌, ℕ, suc, Bool, true, false, List, [], ◌∷◌, None, ◌==◌, refl}
use Rattle.std.proofs.Common.{inl, sym, ap, ◌∙◌}
use Rattle.std.proofs.lemmas.Bool.{cond-true, cond-false, eqb-true, eqb-false}
use Rattle.duty.specs.declared.Duty.{Duty}
use Rattle.duty.specs.declared.Duty.TheVariants.{Rest, Work, Drive}
use Rattle.duty.specs.Duties.{resting, working}
use Rattle.duty.specs.Logs.{at}
use Rattle.duty.proofs.Runs.{run_at}
use Rattle.books.specs.declared.weekly_rest.row.WeeklyRestRow.{WeeklyRestRow}
use Rattle.books.specs.Sentences.{weekly_rest}
use Rattle.books.specs.Sets.{placed, weekly_rest_rules}
use Rattle.books.specs.WeeklyRest.{opened_weekly_rest, next_weekly_rest, weekly_rest_names, weekly_rest_after}
use Rattle.books.specs.Broken.{FirstBroken}
use Rattle.books.specs.Counters.{elapsed_at, elapsed_full, elapsed_more}
use Rattle.books.specs.Limits.{off_duty, elapsed_test}
use Rattle.books.specs.Tied.{Tied, moved_on}

abbrev weekly_rest_at : List Duty → ℕ → WeeklyRestRow
weekly_rest_at l k = record { elapsed = elapsed_at resting 180 576 l k; rest = run_at resting 180 l k }

module _ (l : List Duty) (k : ℕ) where
  weekly_rest_next : next_weekly_rest (weekly_rest_at l k) (at l k) ≡ weekly_rest_at l (suc k)
  weekly_rest_next = go (run_at resting 180 l (suc k) == 180) refl
    where
      go : (b : Bool) → (run_at resting 180 l (suc k) == 180) ≡ b → next_weekly_rest (weekly_rest_at l k) (at l k) ≡ weekly_rest_at l (suc k)
      go true e =
          cond-true _ _ _ e ∙ (λ i. record { elapsed = sym (elapsed_full resting 180 l k 576 (eqb-true _ _ e)) i; rest = run_at resting 180 l (suc k) })
      go false e =
          cond-false _ _ _ e ∙ (λ i. record { elapsed = sym (elapsed_more resting 180 l k 576 (eqb-false _ _ e)) i; rest = run_at resting 180 l (suc k) })

  weekly_rest_moves : weekly_rest_names (weekly_rest_at l k) k (at l k) ≡ None → weekly_rest_after (weekly_rest_at l k) k (at l k) ≡ weekly_rest_at l (suc k)
  weekly_rest_moves none = moved_on _ _ _ none ∙ weekly_rest_next

  weekly_rest_says : FirstBroken (placed 1 (weekly_rest_rules ∷ [])) l k (weekly_rest_names (weekly_rest_at l k) k (at l k))
  weekly_rest_says = go (at l k) refl
    where
      on_duty : working (at l k) ≡ true → FirstBroken (placed 1 (weekly_rest_rules ∷ [])) l k (weekly_rest_names (weekly_rest_at l k) k Work)
      on_duty on = elapsed_test resting 180 l k 576 (1, weekly_rest) [] _ (λ keeps. keeps on) (λ h _. h) refl

      go : (x : Duty) → at l k ≡ x → FirstBroken (placed 1 (weekly_rest_rules ∷ [])) l k (weekly_rest_names (weekly_rest_at l k) k x)
      go Rest e = inl (off_duty (at l k) e, refl)
      go Work e = on_duty (ap working e)
      go Drive e = on_duty (ap working e)

pub weekly_rest_tied : Tied weekly_rest_names weekly_rest_after opened_weekly_rest (weekly_rest_rules ∷ [])
weekly_rest_tied = record { state = weekly_rest_at; start = λ l. refl; moves = weekly_rest_moves; says = weekly_rest_says }

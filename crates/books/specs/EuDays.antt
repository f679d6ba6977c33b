-- The EU day keeps just its sentences.
use Rattle.std.specs.Prelude.{◌≡◌, ℕ, suc, false, List, [], ◌∷◌, None, refl}
use Rattle.std.proofs.Common.{inl, ap, ◌∙◌}
use Rattle.duty.specs.declared.Duty.{Duty}
use Rattle.duty.specs.declared.Duty.TheVariants.{Rest, Work, Drive}
use Rattle.duty.specs.Duties.{resting, driving, working}
use Rattle.duty.specs.Logs.{at}
use Rattle.books.specs.EuDay.{opened_day, day_names, day_after}
use Rattle.books.specs.Sentences.{day_elapsed, day_driving}
use Rattle.books.specs.Sets.{placed, day_rules}
use Rattle.books.specs.Broken.{FirstBroken}
use Rattle.books.specs.Limits.{undriven, off_duty, counted_test, elapsed_test}
use Rattle.books.specs.Periods.{period_at, period_next}
use Rattle.books.specs.Tied.{Tied, moved_on}

day_moves : (l : List Duty) (k : ℕ) → day_names (period_at 44 52 l k) k (at l k) ≡ None → day_after (period_at 44 52 l k) k (at l k) ≡ period_at 44 52 l (suc k)
day_moves l k none = moved_on _ _ _ none ∙ period_next 44 52 l k

day_says : (l : List Duty) (k : ℕ) → FirstBroken (placed 1 (day_rules ∷ [])) l k (day_names (period_at 44 52 l k) k (at l k))
day_says l k = go (at l k) refl
  where
    -- a quarter that is not driven
    stands : (x : Duty) → at l k ≡ x → driving x ≡ false → FirstBroken ((1, day_driving) ∷ []) l k None
    stands x e still = inl (undriven (at l k) x e still, refl)

    go : (x : Duty) → at l k ≡ x → FirstBroken (placed 1 (day_rules ∷ [])) l k (day_names (period_at 44 52 l k) k x)
    go Rest e = inl (off_duty (at l k) e, stands Rest e refl)
    go Work e =
        elapsed_test resting 44 l k 52 (1, day_elapsed) ((1, day_driving) ∷ []) _ (λ keeps. keeps (ap working e)) (λ h _. h) (stands Work e refl)
    go Drive e =
        elapsed_test resting 44 l k 52 (1, day_elapsed) ((1, day_driving) ∷ []) _ (λ keeps. keeps (ap working e)) (λ h _. h)
        (counted_test resting 44 l k driving (ap driving e) 36 (1, day_driving) (λ keeps. keeps e) (λ h _. h))

pub day_tied : Tied day_names day_after opened_day (day_rules ∷ [])
day_tied = record { state = period_at 44 52; start = λ l. refl; moves = day_moves; says = day_says }

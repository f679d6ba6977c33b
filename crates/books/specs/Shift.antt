-- The US shift keeps just its sentences.
use Rattle.std.specs.Prelude.{◌≡◌, ℕ, suc, false, List, [], ◌∷◌, None, refl}
use Rattle.std.proofs.Common.{inl, ap, ◌∙◌}
use Rattle.duty.specs.declared.Duty.{Duty}
use Rattle.duty.specs.declared.Duty.TheVariants.{Rest, Work, Drive}
use Rattle.duty.specs.Duties.{resting, driving}
use Rattle.duty.specs.Logs.{at}
use Rattle.books.specs.Sentences.{shift_elapsed, shift_driving}
use Rattle.books.specs.Sets.{placed, shift_rules}
use Rattle.books.specs.UsShift.{opened_shift, shift_names, shift_after}
use Rattle.books.specs.Broken.{FirstBroken}
use Rattle.books.specs.Limits.{undriven, counted_test, elapsed_test}
use Rattle.books.specs.Periods.{period_at, period_next}
use Rattle.books.specs.Tied.{Tied, moved_on}

shift_moves : (l : List Duty) (k : ℕ) → shift_names (period_at 40 56 l k) k (at l k) ≡ None → shift_after (period_at 40 56 l k) k (at l k) ≡ period_at 40 56 l (suc k)
shift_moves l k none = moved_on _ _ _ none ∙ period_next 40 56 l k

shift_says : (l : List Duty) (k : ℕ) → FirstBroken (placed 1 (shift_rules ∷ [])) l k (shift_names (period_at 40 56 l k) k (at l k))
shift_says l k = go (at l k) refl
  where
    other : (x : Duty) → at l k ≡ x → driving x ≡ false → FirstBroken (placed 1 (shift_rules ∷ [])) l k None
    other x e stands = inl (undriven (at l k) x e stands, inl (undriven (at l k) x e stands, refl))

    go : (x : Duty) → at l k ≡ x → FirstBroken (placed 1 (shift_rules ∷ [])) l k (shift_names (period_at 40 56 l k) k x)
    go Rest e = other Rest e refl
    go Work e = other Work e refl
    go Drive e =
        elapsed_test resting 40 l k 56 (1, shift_elapsed) ((1, shift_driving) ∷ []) _ (λ keeps. keeps e) (λ h _. h)
        (counted_test resting 40 l k driving (ap driving e) 44 (1, shift_driving) (λ keeps. keeps e) (λ h _. h))

pub shift_tied : Tied shift_names shift_after opened_shift (shift_rules ∷ [])
shift_tied = record { state = period_at 40 56; start = λ l. refl; moves = shift_moves; says = shift_says }

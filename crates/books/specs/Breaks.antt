-- The break keeps just its sentence.
use Rattle.std.specs.Prelude.{◌≡◌, ℕ, suc, ◌+◌, Bool, true, false, cond, ◌||◌, List, [], ◌∷◌, None, ◌==◌, nat_lt, refl}
use Rattle.std.proofs.Common.{inl, ⊎_elim, sym, ap, ◌∙◌, arith}
use Rattle.std.proofs.lemmas.Bool.{cond-true, cond-false, or_cases, ltb-true, eqb-true, eqb-false}
use Rattle.duty.specs.declared.Duty.{Duty}
use Rattle.duty.specs.declared.Duty.TheVariants.{Rest, Work, Drive}
use Rattle.duty.specs.Duties.{driving}
use Rattle.duty.specs.Logs.{at}
use Rattle.duty.proofs.Runs.{run_at}
use Rattle.books.specs.declared.driving_break.row.BreakRow.{BreakRow}
use Rattle.books.specs.declared.pause.Pause.{Pause}
use Rattle.books.specs.DrivingBreak.{opened_break, break_names, break_after}
use Rattle.books.specs.Pauses.{pauses}
use Rattle.books.specs.Sentences.{driving_break}
use Rattle.books.specs.Sets.{placed, break_rules}
use Rattle.books.specs.Broken.{FirstBroken}
use Rattle.books.specs.Counters.{counted, counted_full, counted_more}
use Rattle.books.specs.Limits.{undriven, counted_test}
use Rattle.books.specs.Tied.{Tied, moved_on}

-- beside a full run the count is 0
pub full_none : (run full counted : ℕ) → (nat_lt run full || counted == 0) ≡ true → run ≡ full → counted ≡ 0
full_none run full counted e is = ⊎_elim (λ short. absurd (omega (arith, ltb-true run full short))) (eqb-true counted 0) (or_cases (nat_lt run full) (counted == 0) e)

module _ (limit len : ℕ) (kind : Pause) where
  abbrev break_at : List Duty → ℕ → BreakRow
  break_at l k = record { limit = limit; length = len; kind = kind; driven = counted (pauses kind) len driving l k; pause = run_at (pauses kind) len l k }

  moves : (l : List Duty) (k : ℕ) → break_names (break_at l k) k (at l k) ≡ None → break_after (break_at l k) k (at l k) ≡ break_at l (suc k)
  moves l k none =
      moved_on _ _ _ none
      ∙ (λ i. record { limit = limit; length = len; kind = kind; driven = go (run_at (pauses kind) len l (suc k) == len) refl i; pause = run_at (pauses kind) len l (suc k) })
    where
      go : (b : Bool) → (run_at (pauses kind) len l (suc k) == len) ≡ b → cond (run_at (pauses kind) len l (suc k) == len) 0 (counted (pauses kind) len driving l k + cond (driving (at l k)) 1 0) ≡ counted (pauses kind) len driving l (suc k)
      go true e = cond-true _ _ _ e ∙ sym (counted_full (pauses kind) len l k driving (eqb-true _ _ e))
      go false e = cond-false _ _ _ e ∙ sym (counted_more (pauses kind) len l k driving (eqb-false _ _ e))

  says : (l : List Duty) (k : ℕ) → FirstBroken (placed 1 (break_rules limit len kind ∷ [])) l k (break_names (break_at l k) k (at l k))
  says l k = go (at l k) refl
    where
      other : (x : Duty) → at l k ≡ x → driving x ≡ false → FirstBroken (placed 1 (break_rules limit len kind ∷ [])) l k None
      other x e stands = inl (undriven (at l k) x e stands, refl)

      go : (x : Duty) → at l k ≡ x → FirstBroken (placed 1 (break_rules limit len kind ∷ [])) l k (break_names (break_at l k) k x)
      go Rest e = other Rest e refl
      go Work e = other Work e refl
      go Drive e =
          counted_test (pauses kind) len l k driving (ap driving e) limit (1, driving_break limit len kind) (λ keeps. keeps e) (λ h _. h)

  pub break_tied : Tied break_names break_after (opened_break limit len kind) (break_rules limit len kind ∷ [])
  break_tied = record { state = break_at; start = λ l. refl; moves = moves; says = says }

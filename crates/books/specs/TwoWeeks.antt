-- The EU weeks keep just their sentences.
--   weeks_at l k     the driving of the week of quarter k before k, and that of the week before; before week 0 there is none
use Rattle.std.specs.Prelude.{◌≡◌, ℕ, suc, ◌+◌, ◌-◌, ◌*◌, ◌/◌, ◌%◌, ◌≤◌, Bool, true, false, cond, List, [], ◌∷◌, Some, None, ◌==◌, nat_le, refl}
use Rattle.std.proofs.Common.{inl, sym, ap, ◌∙◌, arith}
use Rattle.std.proofs.lemmas.Bool.{cond-true, cond-false, eqb-true, eqb-false, leb-true, leb-false}
use Rattle.duty.specs.declared.Duty.{Duty}
use Rattle.duty.specs.declared.Duty.TheVariants.{Rest, Work, Drive}
use Rattle.duty.specs.Duties.{driving}
use Rattle.duty.specs.Logs.{at, count}
use Rattle.duty.proofs.Counts.{count_more, count_more_one, count_none, count_parts}
use Rattle.books.specs.declared.weeks.row.WeeksRow.{WeeksRow}
use Rattle.books.specs.EuWeeks.{opened_weeks, next_weeks, weeks_names, weeks_after}
use Rattle.books.specs.Sentences.{week_driving, fortnight_driving}
use Rattle.books.specs.Sets.{placed, weeks_rules}
use Rattle.books.specs.Broken.{FirstBroken, broken_test}
use Rattle.books.specs.Limits.{undriven}
use Rattle.books.specs.Tied.{Tied, moved_on}

-- the driving from the beginning of week w on and before quarter k
abbrev driven_from : List Duty → ℕ → ℕ → ℕ
driven_from l w k = count driving l (672 * w) k

abbrev weeks_at : List Duty → ℕ → WeeksRow
weeks_at l k = record { this = driven_from l (k / 672) k; last = driven_from l (k / 672 - 1) (672 * (k / 672)) }

module _ (l : List Duty) (k : ℕ) where
  more : driven_from l (k / 672) k + cond (driving (at l k)) 1 0 ≡ driven_from l (k / 672) (suc k)
  more = omega (arith, count_more driving l (672 * (k / 672)) k (omega arith))

  weeks_next : next_weeks (weeks_at l k) k (at l k) ≡ weeks_at l (suc k)
  weeks_next = go (k % 672 == 671) refl
    where
      go : (b : Bool) → (k % 672 == 671) ≡ b → next_weeks (weeks_at l k) k (at l k) ≡ weeks_at l (suc k)
      go true e =
          let end = eqb-true (k % 672) 671 e in
          let week : k / 672 ≡ suc k / 672 - 1 = omega arith in
          let new : suc k ≡ 672 * (suc k / 672) = omega arith in
          cond-true _ _ _ e
          ∙ (λ i. record { this = sym (count_none driving l (672 * (suc k / 672)) (suc k) (omega arith)) i; last = (more ∙ ap (λ w. driven_from l w (suc k)) week ∙ ap (driven_from l (suc k / 672 - 1)) new) i })
      go false e =
          let within = eqb-false (k % 672) 671 e in
          let week : k / 672 ≡ suc k / 672 = omega arith in
          cond-false _ _ _ e
          ∙ (λ i. record { this = (more ∙ ap (λ w. driven_from l w (suc k)) week) i; last = driven_from l (week i - 1) (672 * week i) })

  weeks_moves : weeks_names (weeks_at l k) k (at l k) ≡ None → weeks_after (weeks_at l k) k (at l k) ≡ weeks_at l (suc k)
  weeks_moves none = moved_on _ _ _ none ∙ weeks_next

  weeks_says : FirstBroken (placed 1 (weeks_rules ∷ [])) l k (weeks_names (weeks_at l k) k (at l k))
  weeks_says = go (at l k) refl
    where
      -- a status that is no driving
      other : (x : Duty) → at l k ≡ x → driving x ≡ false → FirstBroken (placed 1 (weeks_rules ∷ [])) l k None
      other x e still = inl (undriven (at l k) x e still, inl (undriven (at l k) x e still, refl))

      -- one more where quarter k is driving
      one_more : at l k ≡ Drive → (w : ℕ) → w ≤ k / 672 → driven_from l w (k + 1) ≡ 1 + driven_from l w k
      one_more drives w h =
          count_more_one driving l (672 * w) k (omega arith) ∙ ap (λ x. cond (driving x) 1 0 + driven_from l w k) drives

      -- this week and last week together
      both : driven_from l (k / 672 - 1) k ≡ driven_from l (k / 672 - 1) (672 * (k / 672)) + driven_from l (k / 672) k
      both = count_parts driving l (672 * (k / 672 - 1)) (672 * (k / 672)) k (omega arith) (omega arith)

      fortnight : at l k ≡ Drive → FirstBroken ((1, fortnight_driving) ∷ []) l k (cond (nat_le 360 ((weeks_at l k).this + (weeks_at l k).last)) (Some (record { rule = 8; layer = 1 })) None)
      fortnight e =
          broken_test l k (1, fortnight_driving) [] _ _
          (λ many keeps. let kept = keeps e in omega (arith, leb-true _ _ many, both, one_more e (k / 672 - 1) (omega arith)))
          (λ few _. omega (arith, leb-false _ _ few, both, one_more e (k / 672 - 1) (omega arith)))
          refl

      go : (x : Duty) → at l k ≡ x → FirstBroken (placed 1 (weeks_rules ∷ [])) l k (weeks_names (weeks_at l k) k x)
      go Rest e = other Rest e refl
      go Work e = other Work e refl
      go Drive e =
          broken_test l k (1, week_driving) ((1, fortnight_driving) ∷ []) (nat_le 224 (weeks_at l k).this) _
          (λ many keeps. let kept = keeps e in omega (arith, leb-true _ _ many, one_more e (k / 672) (omega arith)))
          (λ few _. omega (arith, leb-false _ _ few, one_more e (k / 672) (omega arith)))
          (fortnight e)

pub weeks_tied : Tied weeks_names weeks_after opened_weeks (weeks_rules ∷ [])
weeks_tied = record { state = weeks_at; start = λ l. refl; moves = weeks_moves; says = weeks_says }

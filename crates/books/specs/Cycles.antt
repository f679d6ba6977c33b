-- The cycle keeps just its sentence.
use Rattle.std.specs.Prelude.{◌≡◌, ℕ, suc, ◌+◌, ◌-◌, ◌%◌, ◌<◌, ◌≤◌, max, Bool, true, false, cond, List, [], ◌∷◌, None, ◌==◌, ◌≢◌, refl}
use Rattle.std.proofs.Common.{inl, sym, ap, ◌∙◌, arith}
use Rattle.std.proofs.lemmas.Bool.{cond-true, cond-false, leb-true, leb-false, eqb-true, eqb-false}
use Rattle.duty.specs.declared.Duty.{Duty}
use Rattle.duty.specs.declared.Duty.TheVariants.{Rest, Work, Drive}
use Rattle.duty.specs.Duties.{resting, driving, working}
use Rattle.duty.specs.Logs.{at, count}
use Rattle.duty.proofs.Counts.{count_more_one}
use Rattle.duty.proofs.Runs.{run_at, since_at, since-le, latest-since}
use Rattle.books.specs.declared.duty_cycle.row.CycleRow.{CycleRow}
use Rattle.books.specs.DayCounts.{total_on, next_counts}
use Rattle.books.specs.DutyCycle.{opened_cycle, cycle_names, next_cycle, cycle_after}
use Rattle.books.specs.Sentences.{Keeps, duty_cycle, days_from}
use Rattle.books.specs.Sets.{placed, cycle_rules}
use Rattle.books.specs.Broken.{FirstBroken, broken_test}
use Rattle.books.specs.Daily.{counts_by, none_by, gone_by, turned_by, total_by}
use Rattle.books.specs.Days.{day_back, back_le, reached, reached_up, reached_today, reached_full, reached-same, reached_older, reached_new}
use Rattle.books.specs.Limits.{undriven, latest-all}
use Rattle.books.specs.Tied.{Tied, moved_on}

-- the sentence's first quarter of the latest days, in the words of the counts
from_back : (days k : ℕ) → 1 ≤ days → days_from days k ≡ day_back k (days - 1)
from_back days k some = omega arith

one_most : (b : Bool) → cond b 1 0 ≤ 1
one_most true = omega arith
one_most false = omega arith

module _ (days limit restart : ℕ) (some : 1 ≤ days) (few : days ≤ 8) where
  abbrev cycle_at : List Duty → ℕ → CycleRow
  cycle_at l k = record { days = days; limit = limit; restart = restart; duty = counts_by days (reached restart l k); rest = run_at resting restart l k }

  start : (l : List Duty) → cycle_at l 0 ≡ opened_cycle days limit restart
  start l = λ i. record { days = days; limit = limit; restart = restart; duty = sym (none_by days (reached restart l 0) (λ _. refl)) i; rest = restart }

  module _ (l : List Duty) (k : ℕ) where
    counts_short : (run_at resting restart l (suc k) ≢ restart) → next_counts days k (counts_by days (reached restart l k)) (working (at l k)) ≡ counts_by days (reached restart l (suc k))
    counts_short e = go (k % 96 == 95) refl
      where
        day : reached restart l k 0 + cond (working (at l k)) 1 0 ≤ 96
        day = omega (arith, reached_today restart l k, one_most (working (at l k)))

        go : (b : Bool) → (k % 96 == 95) ≡ b → next_counts days k (counts_by days (reached restart l k)) (working (at l k)) ≡ counts_by days (reached restart l (suc k))
        go true ends =
            cond-true _ _ _ ends ∙ turned_by days (reached restart l k) (reached restart l (suc k)) _ day (reached_new restart l k (eqb-true _ _ ends)) (reached_older restart l k e (eqb-true _ _ ends))
        go false within =
            cond-false _ _ _ within ∙ gone_by days (reached restart l k) (reached restart l (suc k)) _ day (reached-same restart l k e (eqb-false _ _ within))

    moves : cycle_names (cycle_at l k) k (at l k) ≡ None → cycle_after (cycle_at l k) k (at l k) ≡ cycle_at l (suc k)
    moves none =
        moved_on _ _ _ none
        ∙ (λ i. record { days = days; limit = limit; restart = restart; duty = go (run_at resting restart l (suc k) == restart) refl i; rest = run_at resting restart l (suc k) })
      where
        go : (b : Bool) → (run_at resting restart l (suc k) == restart) ≡ b → (next_cycle (cycle_at l k) k (at l k)).duty ≡ counts_by days (reached restart l (suc k))
        go true e = cond-true _ _ _ e ∙ none_by days (reached restart l (suc k)) (reached_full restart l k (eqb-true _ _ e))
        go false e = cond-false _ _ _ e ∙ counts_short (eqb-false _ _ e)

    -- with the quarter itself on duty the sentence counts one more
    one_more : working (at l k) ≡ true → count working l (max (since_at resting restart l k) (days_from days k)) (k + 1) ≡ 1 + total_on (counts_by days (reached restart l k))
    one_more works =
        ap (λ from. count working l (max (since_at resting restart l k) from) (k + 1)) (from_back days k some)
        ∙ count_more_one working l (max (since_at resting restart l k) (day_back k (days - 1))) k (omega (arith, since-le resting restart l k, back_le k (days - 1)))
        ∙ ap (λ b. cond b 1 0 + reached restart l k (days - 1)) works
        ∙ ap (λ n. 1 + n) (sym (total_by days (reached restart l k) some few (reached_up restart l k)))

    kept : working (at l k) ≡ true → total_on (counts_by days (reached restart l k)) < limit → Keeps (duty_cycle days limit restart) l k
    kept works h _ = latest-all resting restart l k (λ s. count working l (max s (days_from days k)) (k + 1) ≤ limit) (omega (arith, one_more works))

    broken : at l k ≡ Drive → limit ≤ total_on (counts_by days (reached restart l k)) → Keeps (duty_cycle days limit restart) l k → ⊥
    broken drives h keeps =
        let held = keeps drives (since_at resting restart l k) (latest-since resting restart l k) in omega (arith, one_more (ap working drives))

    says : FirstBroken (placed 1 (cycle_rules days limit restart ∷ [])) l k (cycle_names (cycle_at l k) k (at l k))
    says = go (at l k) refl
      where
        other : (x : Duty) → at l k ≡ x → driving x ≡ false → FirstBroken (placed 1 (cycle_rules days limit restart ∷ [])) l k None
        other x e stands = inl (undriven (at l k) x e stands, refl)

        go : (x : Duty) → at l k ≡ x → FirstBroken (placed 1 (cycle_rules days limit restart ∷ [])) l k (cycle_names (cycle_at l k) k x)
        go Rest e = other Rest e refl
        go Work e = other Work e refl
        go Drive e =
            broken_test l k (1, duty_cycle days limit restart) [] _ _ (λ many. broken e (leb-true _ _ many)) (λ few. kept (ap working e) (leb-false _ _ few)) refl

  pub cycle_tied : Tied cycle_names cycle_after (opened_cycle days limit restart) (cycle_rules days limit restart ∷ [])
  cycle_tied = record { state = cycle_at; start = start; moves = moves; says = says }

-- The quarters on duty over the latest days of a log, before quarter k and one quarter on.
--   day_back k i             where the day i days before the day of k begins
--   reached n l k i          the quarters on duty since the latest rest run of n, of the day of k and the i days before it
use Rattle.std.specs.Prelude.{◌≡◌, ℕ, suc, ◌+◌, ◌-◌, ◌*◌, ◌/◌, ◌%◌, ◌≤◌, max, cond, List, ◌≢◌}
use Rattle.std.proofs.Common.{ap, ◌∙◌, arith}
use Rattle.duty.specs.declared.Duty.{Duty}
use Rattle.duty.specs.Duties.{resting, working}
use Rattle.duty.specs.Logs.{at, count}
use Rattle.duty.proofs.Counts.{count_more, count_none, count_bound, count_later}
use Rattle.duty.proofs.Runs.{run_at, since_at, since-le, since_full, since_short}

abbrev pub day_back : ℕ → ℕ → ℕ
day_back k i = 96 * (k / 96 - i)

abbrev pub reached : ℕ → List Duty → ℕ → ℕ → ℕ
reached n l k i = count working l (max (since_at resting n l k) (day_back k i)) k

pub back_le : (k i : ℕ) → day_back k i ≤ k
back_le k i = omega arith

back_up : (k i : ℕ) → day_back k (suc i) ≤ day_back k i
back_up k i = omega arith

back_today : (k : ℕ) → k - day_back k 0 ≤ 95
back_today k = omega arith

back_same : (k i : ℕ) → (k % 96 ≢ 95) → day_back (suc k) i ≡ day_back k i
back_same k i e = let d : suc k / 96 ≡ k / 96 = omega arith in omega arith

back_older : (k i : ℕ) → k % 96 ≡ 95 → day_back (suc k) (suc i) ≡ day_back k i
back_older k i e = let d : suc k / 96 ≡ k / 96 + 1 = omega arith in omega arith

back_new : (k : ℕ) → k % 96 ≡ 95 → day_back (suc k) 0 ≡ suc k
back_new k e = omega arith

module _ (n : ℕ) (l : List Duty) (k : ℕ) where
  pub reached_up : (i : ℕ) → reached n l k i ≤ reached n l k (suc i)
  reached_up i = count_later working l _ _ k (omega (arith, back_up k i))

  pub reached_today : reached n l k 0 ≤ 95
  reached_today = omega (arith, back_today k, count_bound working l (max (since_at resting n l k) (day_back k 0)) k)

  pub reached_full : run_at resting n l (suc k) ≡ n → (i : ℕ) → reached n l (suc k) i ≡ 0
  reached_full e i = count_none working l _ (suc k) (omega (arith, since_full resting n l (suc k) e))

  -- one quarter on, where a day's beginning is the same
  grown : (i j : ℕ) → (run_at resting n l (suc k) ≢ n) → day_back (suc k) i ≡ day_back k j → reached n l (suc k) i ≡ reached n l k j + cond (working (at l k)) 1 0
  grown i j e same =
      let start : max (since_at resting n l (suc k)) (day_back (suc k) i) ≡ max (since_at resting n l k) (day_back k j) = omega (arith, same, since_short resting n l k e) in
      ap (λ s. count working l s (suc k)) start ∙ count_more working l _ k (omega (arith, back_le k j, since-le resting n l k)) ∙ omega arith

  pub reached-same : (run_at resting n l (suc k) ≢ n) → (k % 96 ≢ 95) → (i : ℕ) → reached n l (suc k) i ≡ reached n l k i + cond (working (at l k)) 1 0
  reached-same e within i = grown i i e (back_same k i within)

  pub reached_older : (run_at resting n l (suc k) ≢ n) → k % 96 ≡ 95 → (i : ℕ) → reached n l (suc k) (suc i) ≡ reached n l k i + cond (working (at l k)) 1 0
  reached_older e ends i = grown (suc i) i e (back_older k i ends)

  pub reached_new : k % 96 ≡ 95 → reached n l (suc k) 0 ≡ 0
  reached_new ends = count_none working l _ (suc k) (omega (arith, back_new k ends))

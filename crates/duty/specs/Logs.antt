-- Logs, pauses and counts, by quarter. Assumes nothing.
--   at l q               the duty status of quarter q; past the end of the log, and before quarter 0, rest
--   Paused p l n s       the n quarters before s are a pause, p saying which statuses pause; before quarter 0 all do
--   Latest p l n q s     s is the first quarter after the latest such pause that lies before q
--   count p l s e        how many quarters from s on and before e have a status with p
use Rattle.std.specs.Prelude.{◌≡◌, ℕ, zero, suc, ◌+◌, ◌<◌, ◌≤◌, Bool, true, cond, ◌&&◌, List, nat_le, slice_index_or}
use Rattle.duty.specs.declared.Duty.{Duty}
use Rattle.duty.specs.declared.Duty.TheVariants.{Rest}

abbrev pub at : List Duty → ℕ → Duty
at l q = slice_index_or l q Rest

abbrev pub Paused : (Duty → Bool) → List Duty → ℕ → ℕ → Type 0
Paused p l n s = (k : ℕ) → k < s → s ≤ k + n → p (at l k) ≡ true

pub record Latest (p : Duty → Bool) (l : List Duty) (n q s : ℕ) : Type 0 where
  pub by : s ≤ q
  pub pause : Paused p l n s
  pub latest : (t : ℕ) → s < t → t ≤ q → Paused p l n t → ⊥

abbrev pub count : (Duty → Bool) → List Duty → ℕ → ℕ → ℕ
count p l s zero = 0
count p l s (suc e) = cond (nat_le s e && p (at l e)) 1 0 + count p l s e

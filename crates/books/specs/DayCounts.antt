-- The counts of a cycle, one to a day: entry i is of the day i days before the day of the next quarter. Assumes nothing.
--   NoMore a b              no count of a is larger than b's of the same day
--   none_on                 nothing on any of the eight days
--   total_on on             the quarters on duty of all the days
--   aged days i n           the count n of a day that is now i days back: 0 where that day is no longer counted
--   gone_on today on        the counts within a day, with a new count for today
--   turned days today on    the counts that the next day begins with
--   next_counts days q on   the counts after quarter q, where the rest is not full
--   all_within f on         the count of each day i is at most f i
use Rattle.std.specs.Prelude.{ℕ, suc, ◌+◌, ◌%◌, ◌≤◌, min, Bool, true, cond, ◌&&◌, List, [], ◌∷◌, ◌==◌, nat_le, nat_lt, slice_index}

abbrev pub NoMore : List ℕ → List ℕ → Type 0
NoMore a b = (i : ℕ) → slice_index a i ≤ slice_index b i

abbrev pub none_on : List ℕ
none_on = 0 ∷ 0 ∷ 0 ∷ 0 ∷ 0 ∷ 0 ∷ 0 ∷ 0 ∷ []

abbrev pub total_on : List ℕ → ℕ
total_on on = slice_index on 0 + slice_index on 1 + slice_index on 2 + slice_index on 3 + slice_index on 4 + slice_index on 5 + slice_index on 6 + slice_index on 7

abbrev pub aged : ℕ → ℕ → ℕ → ℕ
aged days i n = cond (nat_lt i days) n 0

abbrev pub turned : ℕ → ℕ → List ℕ → List ℕ
turned days today on =
    0 ∷ aged days 1 today ∷ aged days 2 (slice_index on 1) ∷ aged days 3 (slice_index on 2) ∷ aged days 4 (slice_index on 3) ∷ aged days 5 (slice_index on 4) ∷ aged days 6 (slice_index on 5) ∷ aged days 7 (slice_index on 6) ∷ []

abbrev pub gone_on : ℕ → List ℕ → List ℕ
gone_on today on = today ∷ slice_index on 1 ∷ slice_index on 2 ∷ slice_index on 3 ∷ slice_index on 4 ∷ slice_index on 5 ∷ slice_index on 6 ∷ slice_index on 7 ∷ []

abbrev pub next_counts : ℕ → ℕ → List ℕ → Bool → List ℕ
next_counts days q on busy =
    cond (q % 96 == 95) (turned days (min 96 (slice_index on 0 + cond busy 1 0)) on) (gone_on (min 96 (slice_index on 0 + cond busy 1 0)) on)

abbrev pub all_within : (ℕ → ℕ) → List ℕ → Bool
all_within f [] = true
all_within f (n ∷ on) = nat_le n (f 0) && all_within (λ i. f (suc i)) on

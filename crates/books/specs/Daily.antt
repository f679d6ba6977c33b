-- Eight counts, one to a day, as the differences of sums over days; how they go on with the sums.
--   counts_by days r         the counts where r i is the sum of the day and the i days before it, of the days that are counted
use Rattle.std.specs.Prelude.{◌≡◌, ℕ, zero, suc, ◌+◌, ◌-◌, ◌≤◌, min, List, [], ◌∷◌}
use Rattle.std.proofs.Common.{sym, ap, ◌∙◌, arith}
use Rattle.std.proofs.lemmas.Bool.Decides.{nat_tests}
use Rattle.books.specs.DayCounts.{none_on, total_on, aged, turned, gone_on}

abbrev pub counts_by : ℕ → (ℕ → ℕ) → List ℕ
counts_by days r =
    r 0 ∷ aged days 1 (r 1 - r 0) ∷ aged days 2 (r 2 - r 1) ∷ aged days 3 (r 3 - r 2) ∷ aged days 4 (r 4 - r 3) ∷ aged days 5 (r 5 - r 4) ∷ aged days 6 (r 6 - r 5) ∷ aged days 7 (r 7 - r 6) ∷ []

aged-none : (days i m n : ℕ) → m ≡ 0 → aged days i (m - n) ≡ 0
aged-none days i m n e = grind (arith, nat_tests)

pub none_by : (days : ℕ) (r : ℕ → ℕ) → ((i : ℕ) → r i ≡ 0) → none_on ≡ counts_by days r
none_by days r e = sym (λ i.
    e 0 i ∷ aged-none days 1 (r 1) (r 0) (e 1) i ∷ aged-none days 2 (r 2) (r 1) (e 2) i ∷ aged-none days 3 (r 3) (r 2) (e 3) i ∷ aged-none days 4 (r 4) (r 3) (e 4) i ∷ aged-none days 5 (r 5) (r 4) (e 5) i ∷ aged-none days 6 (r 6) (r 5) (e 6) i ∷ aged-none days 7 (r 7) (r 6) (e 7) i ∷ [])

module _ (days : ℕ) (r r' : ℕ → ℕ) (w : ℕ) (day : r 0 + w ≤ 96) where
  -- within a day every sum grows by what the quarter adds
  pub gone_by : ((i : ℕ) → r' i ≡ r i + w) → gone_on (min 96 (r 0 + w)) (counts_by days r) ≡ counts_by days r'
  gone_by e = λ i. today i ∷ same 1 0 i ∷ same 2 1 i ∷ same 3 2 i ∷ same 4 3 i ∷ same 5 4 i ∷ same 6 5 i ∷ same 7 6 i ∷ []
    where
      today : min 96 (r 0 + w) ≡ r' 0
      today = omega (arith, e 0)

      same : (i j : ℕ) → aged days i (r i - r j) ≡ aged days i (r' i - r' j)
      same i j = let d : r i - r j ≡ r' i - r' j = omega (arith, e i, e j) in ap (aged days i) d

  -- over the end of a day every sum moves one day back
  pub turned_by : r' 0 ≡ 0 → ((i : ℕ) → r' (suc i) ≡ r i + w) → turned days (min 96 (r 0 + w)) (counts_by days r) ≡ counts_by days r'
  turned_by none e =
      λ i. sym none i ∷ first i ∷ older 1 0 i ∷ older 2 1 i ∷ older 3 2 i ∷ older 4 3 i ∷ older 5 4 i ∷ older 6 5 i ∷ []
    where
      first : aged days 1 (min 96 (r 0 + w)) ≡ aged days 1 (r' 1 - r' 0)
      first = let d : min 96 (r 0 + w) ≡ r' 1 - r' 0 = omega (arith, none, e 0) in ap (aged days 1) d

      twice : (i n : ℕ) → aged days (suc i) (aged days i n) ≡ aged days (suc i) n
      twice i n = grind (arith, nat_tests)

      older : (i j : ℕ) → aged days (suc i) (aged days i (r i - r j)) ≡ aged days (suc i) (r' (suc i) - r' (suc j))
      older i j = let d : r i - r j ≡ r' (suc i) - r' (suc j) = omega (arith, e i, e j) in twice i _ ∙ ap (aged days (suc i)) d

-- all the counts together are the sum over the days that are counted
pub total_by : (days : ℕ) (r : ℕ → ℕ) → 1 ≤ days → days ≤ 8 → ((i : ℕ) → r i ≤ r (suc i)) → total_on (counts_by days r) ≡ r (days - 1)
total_by zero r some few up = absurd (omega arith)
total_by (suc zero) r some few up = omega arith
total_by (suc (suc zero)) r some few up = omega (arith, up 0)
total_by (suc (suc (suc zero))) r some few up = omega (arith, up 0, up 1)
total_by (suc (suc (suc (suc zero)))) r some few up = omega (arith, up 0, up 1, up 2)
total_by (suc (suc (suc (suc (suc zero))))) r some few up = omega (arith, up 0, up 1, up 2, up 3)
total_by (suc (suc (suc (suc (suc (suc zero)))))) r some few up = omega (arith, up 0, up 1, up 2, up 3, up 4)
total_by (suc (suc (suc (suc (suc (suc (suc zero))))))) r some few up = omega (arith, up 0, up 1, up 2, up 3, up 4, up 5)
total_by (suc (suc (suc (suc (suc (suc (suc (suc zero)))))))) r some few up = omega (arith, up 0, up 1, up 2, up 3, up 4, up 5, up 6)
total_by (suc (suc (suc (suc (suc (suc (suc (suc (suc n))))))))) r some few up = absurd (omega arith)

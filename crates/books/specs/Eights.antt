-- Eight counts, one to a day: their order and their bounds, before and after a quarter.
use Rattle.std.specs.Prelude.{◌≡◌, ℕ, zero, suc, ◌+◌, ◌-◌, ◌%◌, ◌<◌, ◌≤◌, min, Bool, true, false, cond, ◌&&◌, List, [], ◌∷◌, length, sum, Decides, ◌==◌, nat_lt, slice_index, refl}
use Rattle.std.proofs.Common.{inl, inr, sym, ap, subst, ◌∙◌, arith}
use Rattle.std.proofs.lemmas.Bool.{cases_Bool, and_parts, and_from, leb-true, le-leb, eqb-false}
use Rattle.std.proofs.lemmas.Bool.Decides.{nat_tests}
use Rattle.std.proofs.lemmas.List.FromFn.{fill_by_all}
use Rattle.books.specs.Bounds.{CycleCounts, most_on}
use Rattle.books.specs.DayCounts.{NoMore, none_on, total_on, aged, turned, gone_on, next_counts, all_within}

-- eight numbers, each at most what f says of its place
pub each_of_eight : (f : ℕ → ℕ) (a b c d e g h j : ℕ) → a ≤ f 0 → b ≤ f 1 → c ≤ f 2 → d ≤ f 3 → e ≤ f 4 → g ≤ f 5 → h ≤ f 6 → j ≤ f 7 → (i : ℕ) → slice_index (a ∷ b ∷ c ∷ d ∷ e ∷ g ∷ h ∷ j ∷ []) i ≤ f i
each_of_eight f a b c d e g h j pa pb pc pd pe pg ph pj zero = pa
each_of_eight f a b c d e g h j pa pb pc pd pe pg ph pj (suc zero) = pb
each_of_eight f a b c d e g h j pa pb pc pd pe pg ph pj (suc (suc zero)) = pc
each_of_eight f a b c d e g h j pa pb pc pd pe pg ph pj (suc (suc (suc zero))) = pd
each_of_eight f a b c d e g h j pa pb pc pd pe pg ph pj (suc (suc (suc (suc zero)))) = pe
each_of_eight f a b c d e g h j pa pb pc pd pe pg ph pj (suc (suc (suc (suc (suc zero))))) = pg
each_of_eight f a b c d e g h j pa pb pc pd pe pg ph pj (suc (suc (suc (suc (suc (suc zero)))))) = ph
each_of_eight f a b c d e g h j pa pb pc pd pe pg ph pj (suc (suc (suc (suc (suc (suc (suc zero))))))) = pj
each_of_eight f a b c d e g h j pa pb pc pd pe pg ph pj (suc (suc (suc (suc (suc (suc (suc (suc i)))))))) = omega arith

pub none_least : (f : ℕ → ℕ) (i : ℕ) → slice_index none_on i ≤ f i
none_least f =
    each_of_eight f 0 0 0 0 0 0 0 0 (omega arith) (omega arith) (omega arith) (omega arith) (omega arith) (omega arith) (omega arith) (omega arith)

pub total_more : (on on' : List ℕ) → NoMore on on' → total_on on ≤ total_on on'
total_more on on' more = omega (arith, more 0, more 1, more 2, more 3, more 4, more 5, more 6, more 7)

aged_more : (days i m n : ℕ) → m ≤ n → aged days i m ≤ aged days i n
aged_more days i m n h = grind (arith, nat_tests)

turned_more : (days m n : ℕ) (on on' : List ℕ) → m ≤ n → NoMore on on' → NoMore (turned days m on) (turned days n on')
turned_more days m n on on' h more =
    each_of_eight (λ i. slice_index (turned days n on') i) _ _ _ _ _ _ _ _
    (omega arith)
    (aged_more days 1 m n h)
    (aged_more days 2 _ _ (more 1))
    (aged_more days 3 _ _ (more 2))
    (aged_more days 4 _ _ (more 3))
    (aged_more days 5 _ _ (more 4))
    (aged_more days 6 _ _ (more 5))
    (aged_more days 7 _ _ (more 6))

gone_on_more : (m n : ℕ) (on on' : List ℕ) → m ≤ n → NoMore on on' → NoMore (gone_on m on) (gone_on n on')
gone_on_more m n on on' h more =
    each_of_eight (λ i. slice_index (gone_on n on') i) _ _ _ _ _ _ _ _ h (more 1) (more 2) (more 3) (more 4) (more 5) (more 6) (more 7)

pub next_more : (days q : ℕ) (on on' : List ℕ) (busy busy' : Bool) → cond busy 1 0 ≤ cond busy' 1 0 → NoMore on on' → NoMore (next_counts days q on busy) (next_counts days q on' busy')
next_more days q on on' busy busy' b more =
    let m : ℕ = min 96 (slice_index on 0 + cond busy 1 0) in
    let n : ℕ = min 96 (slice_index on' 0 + cond busy' 1 0) in
    let h : m ≤ n = omega (arith, more 0) in
    elim (q % 96 == 95) as (λ t. NoMore (cond t (turned days m on) (gone_on m on)) (cond t (turned days n on') (gone_on n on'))) [ true ↦ turned_more days m n on on' h more | false ↦ gone_on_more m n on on' h more ]

most_day : (days restart rest i : ℕ) → most_on days restart rest i ≤ 96
most_day days restart rest i = grind (arith, nat_tests)

-- while the run is not full, the bound is the same
most_short : (days restart rest rest' i : ℕ) → rest' < restart → most_on days restart rest i ≤ most_on days restart rest' i
most_short days restart rest rest' i h = grind (arith, nat_tests)

aged_within : (days restart rest i n : ℕ) → rest < restart → n ≤ 96 → aged days i n ≤ most_on days restart rest i
aged_within days restart rest i n h d = grind (arith, nat_tests)

turned_within : (days restart rest n : ℕ) (on : List ℕ) → rest < restart → n ≤ 96 → ((i : ℕ) → slice_index on i ≤ 96) → CycleCounts days restart (turned days n on) rest
turned_within days restart rest n on short h day =
    each_of_eight (most_on days restart rest) _ _ _ _ _ _ _ _
    (omega arith)
    (aged_within days restart rest 1 n short h)
    (aged_within days restart rest 2 _ short (day 1))
    (aged_within days restart rest 3 _ short (day 2))
    (aged_within days restart rest 4 _ short (day 3))
    (aged_within days restart rest 5 _ short (day 4))
    (aged_within days restart rest 6 _ short (day 5))
    (aged_within days restart rest 7 _ short (day 6))

gone_on_within : (days restart rest n : ℕ) (on : List ℕ) → 1 ≤ days → rest < restart → n ≤ 96 → CycleCounts days restart on rest → CycleCounts days restart (gone_on n on) rest
gone_on_within days restart rest n on some short h within =
    each_of_eight (most_on days restart rest) _ _ _ _ _ _ _ _
    (grind (arith, nat_tests))
    (within 1)
    (within 2)
    (within 3)
    (within 4)
    (within 5)
    (within 6)
    (within 7)

next_within : (days restart rest rest' q : ℕ) (on : List ℕ) (busy : Bool) → 1 ≤ days → rest' < restart → CycleCounts days restart on rest → CycleCounts days restart (next_counts days q on busy) rest'
next_within days restart rest rest' q on busy some short within =
    let n : ℕ = min 96 (slice_index on 0 + cond busy 1 0) in
    let day : (i : ℕ) → slice_index on i ≤ 96 = λ i. omega (arith, within i, most_day days restart rest i) in
    elim (q % 96 == 95) as (λ t. CycleCounts days restart (cond t (turned days n on) (gone_on n on)) rest') [
      | true ↦ turned_within days restart rest' n on short (omega arith) day
      | false ↦
          gone_on_within days restart rest' n on some short (omega arith) (λ i. omega (arith, within i, most_short days restart rest rest' i short))
    ]

-- the counts beside the run that a quarter leaves
pub counts_within : (days restart rest rest' q : ℕ) (on on' : List ℕ) (busy : Bool) → 1 ≤ days → rest' ≤ restart → CycleCounts days restart on rest → on' ≡ cond (rest' == restart) none_on (next_counts days q on busy) → CycleCounts days restart on' rest'
counts_within days restart rest rest' q on on' busy some le within is =
    subst (λ n. CycleCounts days restart n rest') (sym is) (go (rest' == restart) refl)
  where
    go : (b : Bool) → (rest' == restart) ≡ b → CycleCounts days restart (cond b none_on (next_counts days q on busy)) rest'
    go true e = none_least _
    go false e = next_within days restart rest rest' q on busy some (omega (arith, eqb-false rest' restart e)) within

-- the test of a row's counts
within_true : (f : ℕ → ℕ) (on : List ℕ) → all_within f on ≡ true → (i : ℕ) → slice_index on i ≤ f i
within_true f [] e i = omega arith
within_true f (n ∷ on) e zero = leb-true n (f 0) (and_parts _ _ e).0
within_true f (n ∷ on) e (suc i) = within_true (λ i. f (suc i)) on (and_parts _ _ e).1 i

true_within : (f : ℕ → ℕ) (on : List ℕ) → ((i : ℕ) → slice_index on i ≤ f i) → all_within f on ≡ true
true_within f [] h = refl
true_within f (n ∷ on) h = and_from _ _ (le-leb n (f 0) (h 0)) (true_within (λ i. f (suc i)) on (λ i. h (suc i)))

pub decides_within : (f : ℕ → ℕ) (on : List ℕ) → Decides (all_within f on) ((i : ℕ) → slice_index on i ≤ f i)
decides_within f on = (within_true f on, true_within f on)

pub not_within : (f : ℕ → ℕ) (on : List ℕ) (i : ℕ) → f i < slice_index on i → all_within f on ≡ false
not_within f on i h =
    elim (cases_Bool (all_within f on)) [ inl e ↦ absurd (omega (arith, within_true f on e i)) | inr e ↦ e ]

-- eight counts in all
pub sum_of_eight : (on : List ℕ) → length on ≡ 8 → sum on ≡ total_on on
sum_of_eight on is = ap sum (fill_by_all (slice_index on) on 8 0 is (λ k lt. refl)) ∙ omega arith

-- eight counts that are each the one of the day after
pub turned_from : (days today : ℕ) (on xs : List ℕ) → length xs ≡ 8 → ((k : ℕ) → k < 8 → slice_index xs k ≡ cond (nat_lt 0 k && nat_lt k days) (slice_index (gone_on today on) (k - 1)) 0) → xs ≡ turned days today on
turned_from days today on xs is each =
    fill_by_all (λ k. cond (nat_lt 0 k && nat_lt k days) (slice_index (gone_on today on) (k - 1)) 0) xs 8 0 is each

-- A list of which no element covers one at another place is no longer than any list that covers it and that it covers.
--   one_to_one         as many numbers as can be paired off with numbers below n, each with its own, are at most n
--   Lone C xs          no element of xs has C to one at another place
--   smallest           the lengths
use Rattle.std.proofs.Common.{◌≡◌, ℕ, zero, suc, ◌-◌, ◌<◌, ◌≤◌, ◌⊎◌, List, [], ◌∷◌, length, get_or, sym, refl, ◌∙◌, subst, inl, inr, ⊎_elim, arith}
use Rattle.std.proofs.lemmas.Bool.{cases_lt, cases_eq}

-- the pairs of T below the last number n, where k is taken: what was paired with n is now with k
abbrev Moved : (ℕ → ℕ → Type 0) → ℕ → ℕ → ℕ → ℕ → Type 0
Moved T n k i j = (T i j × (j ≡ k → ⊥)) ⊎ ((j ≡ k) × T i n)

one_to_one : (m n : ℕ) (T : ℕ → ℕ → Type 0) → ((i : ℕ) → i < m → (k : ℕ) × (k < n) × T i k) → ((i j k : ℕ) → i < m → j < m → T i k → T j k → i ≡ j) → m ≤ n
one_to_one zero n T into one = omega arith
one_to_one (suc m) n T into one =
    let last = into m (omega arith) in
    let below : m ≤ n - 1 = one_to_one m (n - 1) (Moved T (n - 1) last.0) (λ i h.
    let t = into i (omega arith) in
    let other : t.0 ≡ last.0 → ⊥ = λ e. let same = one i m last.0 (omega arith) (omega arith) (subst (T i) e t.2) last.2 in omega arith in
    ⊎_elim {C = (k : ℕ) × (k < n - 1) × Moved T (n - 1) last.0 i k} (λ l. (t.0, l, inl (t.2, other))) (λ l.
    let top : t.0 ≡ n - 1 = omega (arith, t.1) in (last.0, omega (arith, other, last.1), inr (refl, subst (T i) top t.2))) (cases_lt t.0 (n - 1))) (λ i j k hi hj.
    ⊎_elim (λ p. ⊎_elim (λ r. one i j k (omega arith) (omega arith) p.0 r.0) (λ r. absurd (p.1 r.0))) (λ p. ⊎_elim (λ r. absurd (r.1 p.0)) (λ r. one i j (n - 1) (omega arith) (omega arith) p.1 r.1))) in omega (arith, last.1)

module _ {X : Type 0} (C : X → X → Type 0) where
  abbrev pub Lone : List X → Type 0
  Lone xs = (i j : ℕ) (d : X) → i < length xs → j < length xs → (i ≡ j → ⊥) → C (get_or xs i d) (get_or xs j d) → ⊥

  -- each element of ys has one of xs that covers it
  abbrev pub Over : List X → List X → Type 0
  Over xs ys = (i : ℕ) (d : X) → i < length ys → (k : ℕ) × (k < length xs) × C (get_or xs k d) (get_or ys i d)

  pub smallest : ((x y z : X) → C x y → C y z → C x z) → (xs ys : List X) → Lone xs → Over ys xs → Over xs ys → length xs ≤ length ys
  smallest transitive [] ys lone into back = omega arith
  smallest transitive (x ∷ xs) ys lone into back =
      let own : (i j : ℕ) → i < length (x ∷ xs) → j < length (x ∷ xs) → C (get_or (x ∷ xs) i x) (get_or (x ∷ xs) j x) → i ≡ j = λ i j hi hj c. ⊎_elim (λ e. e) (λ n. absurd (lone i j x hi hj n c)) (cases_eq i j) in
      one_to_one (length (x ∷ xs)) (length ys) (λ i k. (k < length ys) × C (get_or ys k x) (get_or (x ∷ xs) i x)) (λ i h. let t = into i x h in (t.0, t.1, (t.1, t.2))) (λ i j k hi hj p r.
      let b = back k x p.0 in
      sym (own b.0 i b.1 hi (transitive _ _ _ b.2 p.1)) ∙ own b.0 j b.1 hj (transitive _ _ _ b.2 r.1))

-- The letters at the front of a list that are equal to its first, as `chunk_by` gives them.
use Rattle.std.proofs.Common.{◌≡◌, ℕ, zero, suc, ◌+◌, ◌-◌, ◌<◌, ◌≤◌, true, eqb, List, [], ◌∷◌, ◌++◌, length, get_or, take, replicate, sym, refl, ap, ◌∙◌, subst, arith}
use Rattle.std.proofs.lemmas.Bool.{eqb-true, eqb-false}
use Rattle.std.proofs.lemmas.List.{ext_get_or, get_or-take, get_or_append_left, get_or_at, get_or-replicate, length-append, length-take-le, length-replicate}
use Rattle.std.specs.List.{AllAdjacentBelow, IsChunkByPrefix}
use Rattle.replies.specs.declared.runs.Run.{Run}
use Rattle.replies.specs.Schedules.{Differs, RunsFrom}

pub equal_front : (xs : List ℕ) (n x : ℕ) → n ≤ length xs → ((k : ℕ) → k < n → get_or xs k 0 ≡ x) → take n xs ≡ replicate n x
equal_front xs n x le each =
    ext_get_or 0 (take n xs) (replicate n x) (length-take-le n xs le ∙ sym (length-replicate n x))
    (λ k lt. let below : k < n = omega (arith, length-take-le n xs le) in get_or-take n xs k 0 below ∙ each k below ∙ sym (get_or-replicate n k x 0 below))

module _ (xs : List ℕ) (n : ℕ) where
  equal_first : AllAdjacentBelow (λ x y. eqb x y ≡ true) xs n → (k : ℕ) → k < n → get_or xs k 0 ≡ get_or xs 0 0
  equal_first alike zero lt = refl
  equal_first alike (suc k) lt =
      let next : suc k ≡ k + 1 = omega arith in
      let less : k + 1 < n = omega arith in
      ap (λ m. get_or xs m 0) next ∙ sym (eqb-true _ _ (alike k 0 less)) ∙ equal_first alike k (omega arith)

differs_after : (run rest : List ℕ) (x : ℕ) → (length run < length (run ++ rest) → get_or (run ++ rest) (length run) 0 ≡ x → ⊥) → Differs x rest
differs_after run [] x h = tt
differs_after run (y ∷ rest) x h =
    λ e. h (omega (arith, length-append run (y ∷ rest))) (get_or_at run y rest 0 (length run) refl ∙ e)

-- a run, and those of what is left
pub run_step : (q : ℕ) (letters run rest : List ℕ) (more : List Run) → letters ≡ run ++ rest → 0 < length run → IsChunkByPrefix eqb letters (length run) → RunsFrom (q + length run) rest more → RunsFrom q letters (record { first = q; letter = get_or run 0 0; count = length run } ∷ more)
run_step q letters run rest more whole some cut h =
    let x : ℕ = get_or run 0 0 in
    let n : ℕ = length run in
    let here : (k : ℕ) → k < n → get_or run k 0 ≡ get_or letters k 0 = λ k lt. sym (ap (λ l. get_or l k 0) whole ∙ get_or_append_left run rest 0 k lt) in
    let each : (k : ℕ) → k < n → get_or run k 0 ≡ x = λ k lt. here k lt ∙ equal_first letters n cut.0 k lt ∙ sym (here 0 some) in
    let same : run ≡ replicate n x =
    ext_get_or 0 run (replicate n x) (sym (length-replicate n x)) (λ k lt. each k lt ∙ sym (get_or-replicate n k x 0 lt)) in
    let ended : n < length letters → get_or letters n 0 ≡ x → ⊥ =
    λ lt e. eqb-false _ _ (cut.1 lt 0) (sym (here (n - 1) (omega arith)) ∙ each (n - 1) (omega arith) ∙ sym e) in (
      rest,
      refl,
      some,
      whole ∙ ap (λ l. l ++ rest) same,
      differs_after run rest x (subst (λ l. n < length l → get_or l n 0 ≡ x → ⊥) whole ended),
      h,
    )

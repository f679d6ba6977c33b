-- Bytes cut at a mark.
use Rattle.std.proofs.Common.{◌≡◌, ℕ, zero, suc, ◌+◌, ◌-◌, ◌<◌, Bool, true, not, ◌&&◌, eqb, List, [], ◌∷◌, ◌++◌, length, get_or, take, drop, sym, refl, ap, ◌∙◌, inl, inr, arith}
use Rattle.std.proofs.lemmas.List.{take-append-drop, drop_more, get_or-take, length-append, length-take, take_rest}
use Rattle.std.proofs.lemmas.Bool.{and_parts, eqb-false, not-true}
use Rattle.fields.specs.Cuts.{Lacks, Parted, FirstLine}

pub cut_at : (mark : ℕ) (bytes : List ℕ) (i : ℕ) → i < length bytes → get_or bytes i 0 ≡ mark → ((k : ℕ) → k < i → get_or bytes k 0 ≡ mark → ⊥) → Parted mark bytes (take (i - 0) bytes) (take (length bytes - (i + 1)) (drop (i + 1) bytes))
cut_at mark bytes i within is before =
    let same : i - 0 ≡ i = omega arith in
    record {
      unbroken = λ k lt e.
          let below : k < i = omega (arith, length-take (i - 0) bytes) in
          let under : k < i - 0 = omega arith in
          before k below (sym (get_or-take (i - 0) bytes k 0 under) ∙ e);
      whole =
          sym (take-append-drop i bytes)
          ∙ ap (λ xs. take i bytes ++ xs) (drop_more bytes i 0 within ∙ ap (λ b. b ∷ drop (i + 1) bytes) is)
          ∙ ap (λ n. take n bytes ++ mark ∷ drop (i + 1) bytes) (sym same)
          ∙ ap (λ xs. take (i - 0) bytes ++ mark ∷ xs) (sym (take_rest bytes (i + 1)));
    }

-- what lacks the mark still lacks it without its first byte
pub lacks_tail : (mark x : ℕ) (xs : List ℕ) → Lacks mark (x ∷ xs) → Lacks mark xs
lacks_tail mark x xs h k lt = h (suc k) (omega arith)

-- bytes are parted at a mark in one way
pub parted_once : (mark : ℕ) (xs ys xs' ys' : List ℕ) → Lacks mark xs → Lacks mark ys → xs ++ mark ∷ xs' ≡ ys ++ mark ∷ ys' → (xs ≡ ys) × (xs' ≡ ys')
parted_once mark [] [] xs' ys' hx hy e = (refl, ap (drop 1) e)
parted_once mark [] (y ∷ ys) xs' ys' hx hy e = absurd (hy 0 (omega arith) (sym (ap (λ l. get_or l 0 0) e)))
parted_once mark (x ∷ xs) [] xs' ys' hx hy e = absurd (hx 0 (omega arith) (ap (λ l. get_or l 0 0) e))
parted_once mark (x ∷ xs) (y ∷ ys) xs' ys' hx hy e =
    let rest = parted_once mark xs ys xs' ys' (lacks_tail mark x xs hx) (lacks_tail mark y ys hy) (ap (drop 1) e) in
    let front : x ∷ xs ≡ y ∷ ys = cc (ap (λ l. get_or l 0 0) e, rest.0) in
    (front, rest.1)

-- a byte that stands behind others is not lacked
pub lacks_not : (mark : ℕ) (xs ys : List ℕ) → Lacks mark (xs ++ mark ∷ ys) → ⊥
lacks_not mark [] ys h = h 0 (omega arith) refl
lacks_not mark (x ∷ xs) ys h = lacks_not mark xs ys (lacks_tail mark x (xs ++ mark ∷ ys) h)

-- whether the mark stands among the bytes, by computation
abbrev pub lacks : ℕ → List ℕ → Bool
lacks mark [] = true
lacks mark (x ∷ xs) = not (eqb x mark) && lacks mark xs

pub lacks_so : (mark : ℕ) (xs : List ℕ) → lacks mark xs ≡ true → Lacks mark xs
lacks_so mark [] e k lt is = omega arith
lacks_so mark (x ∷ xs) e zero lt is = eqb-false x mark (not-true _ (and_parts _ _ e).0) is
lacks_so mark (x ∷ xs) e (suc k) lt is = lacks_so mark xs (and_parts _ _ e).1 k (omega arith) is

-- what stands behind a line is shorter than the text
pub rest_shorter : (text line rest : List ℕ) → FirstLine text line rest → 0 < length text → length rest < length text
rest_shorter text line rest h some =
    elim h.whole [
      | inl e ↦ omega (arith, simp length-append at (ap length e))
      | inr e ↦ omega (arith, ap length e.1)
    ]

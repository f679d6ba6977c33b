-- A line read word by word: one word more, one run more, and the log as far as it may go.
use Rattle.std.proofs.Common.{◌≡◌, ℕ, ◌+◌, ◌-◌, ◌<◌, ◌≤◌, min, List, [], ◌∷◌, ◌++◌, Bor, Option, Some, None, length, map, take, drop, replicate, refl, sym, ap, subst, ◌∙◌, inl, inr, arith, append_assoc, take_all}
use Rattle.std.proofs.lemmas.Bool.{cases_lt}
use Rattle.std.proofs.lemmas.List.{length-append, length-map, take-append-le, take-replicate, length-take, append-nil, length-replicate}
use Rattle.std.proofs.Math.Seq.{take-append-add}
use Rattle.std.specs.Iterator.{Yields, SkipsThenYields}
use Rattle.std.specs.Char.{is_whitespace, is_not_whitespace}
use Rattle.std.specs.Str.{NoCharPasses, EmptyOrStartsWithPassing}
use Rattle.case_lines.specs.declared.run.Run.{Run}
use Rattle.case_lines.specs.Spelled.{SpellsRun, Begins, SpellEach, letters}

-- the next word of a text
abbrev pub Next : List ℕ → List ℕ → List ℕ → Type 0
Next text word rest =
    (gap : List ℕ) × (text ≡ gap ++ (word ++ rest)) × (0 < length word) × NoCharPasses is_not_whitespace gap × NoCharPasses is_whitespace word
    × ((more : List ℕ) × EmptyOrStartsWithPassing is_whitespace rest more)

pub begins_more : (words : List (List ℕ)) (text mid word rest : List ℕ) → Begins text words mid → Next mid word rest → Begins text (words ++ (word ∷ [])) rest
begins_more [] text mid word rest b next = (next.0, rest, b ∙ next.1, next.2, next.3, next.4, next.5, refl)
begins_more (w ∷ words) text mid word rest b next = (b.0, b.1, b.2, b.3, b.4, b.5, b.6, begins_more words b.1 mid word rest b.7 next)

-- the words that an iterator takes off, one by one, and those that a skip passes over before it takes one
module _ {S : Type 0} (rest : S → List ℕ) (steps : S → Option (Bor (List ℕ)) → S → Type 0) (takes : (s t : S) (x : Bor (List ℕ)) → steps s (Some x) t → Next (rest s) x.now (rest t)) where
  begins_past : (words : List (List ℕ)) (text : List ℕ) (s t : S) (xs : List (Bor (List ℕ))) → Begins text words (rest s) → Yields steps s xs t → Begins text (words ++ map (λ x. x.now) xs) (rest t)
  begins_past words text s t [] b y = subst (λ u. Begins text (words ++ []) (rest u)) y (subst (λ ws. Begins text ws (rest s)) (sym (append-nil words)) b)
  begins_past words text s t (x ∷ xs) b y =
      subst (λ ws. Begins text ws (rest t)) (append_assoc words (x.now ∷ []) (map (λ x. x.now) xs))
      (begins_past (words ++ (x.now ∷ [])) text y.0 t xs (begins_more words text (rest s) x.now (rest y.0) b (takes s y.0 x y.1)) y.2)

  pub next_word : (words : List (List ℕ)) (text : List ℕ) (s t : S) (n : ℕ) (x : Bor (List ℕ)) → n ≡ 1 - length words → Begins text words (rest s) → SkipsThenYields steps s n (Some x) t → (more : List (List ℕ)) × (0 < length more) × Begins text (more ++ (x.now ∷ [])) (rest t) × (drop 1 (more ++ (x.now ∷ [])) ≡ drop 1 words ++ (x.now ∷ []))
  next_word words text s t n x left b run =
      let xs = run.0 in
      let mid : S = run.1.0 in
      let more : List (List ℕ) = words ++ map (λ x. x.now) xs in (
        more,
        omega (arith, left, run.2, length-append words (map (λ x. x.now) xs), length-map xs (λ x. x.now)),
        begins_more more text (rest mid) x.now (rest t) (begins_past words text s mid xs b run.1.1) (takes mid t x run.1.2),
        later words xs (run.2 ∙ left),
      )
    where
      later : (words : List (List ℕ)) (xs : List (Bor (List ℕ))) → length xs ≡ 1 - length words → drop 1 ((words ++ map (λ x. x.now) xs) ++ (x.now ∷ [])) ≡ drop 1 words ++ (x.now ∷ [])
      later [] [] e = absurd (omega (arith, e))
      later [] (y ∷ []) e = refl
      later [] (y ∷ z ∷ xs) e = absurd (omega (arith, e))
      later (w ∷ words) [] e = ap (λ ws. ws ++ (x.now ∷ [])) (append-nil words)
      later (w ∷ words) (y ∷ xs) e = absurd (omega (arith, e))

  pub no_more_words : (words : List (List ℕ)) (text : List ℕ) (s t : S) (n : ℕ) → n ≡ 1 - length words → Begins text words (rest s) → SkipsThenYields steps s n None t → (more : List (List ℕ)) × (mid : S) × Begins text more (rest mid) × steps mid None t × (drop 1 more ≡ drop 1 words)
  no_more_words words text s t n left b run =
      (words ++ map (λ x. x.now) run.0, run.1.0, begins_past words text s run.1.0 run.0 b run.1.1, run.1.2, later words run.0 (omega (arith, left, run.2)))
    where
      later : (words : List (List ℕ)) (xs : List (Bor (List ℕ))) → length xs ≤ 1 - length words → drop 1 (words ++ map (λ x. x.now) xs) ≡ drop 1 words
      later [] [] e = refl
      later [] (y ∷ []) e = refl
      later [] (y ∷ z ∷ xs) e = absurd (omega (arith, e))
      later (w ∷ words) [] e = append-nil words
      later (w ∷ words) (y ∷ xs) e = absurd (omega (arith, e))

pub each_more : (words : List (List ℕ)) (runs : List Run) (word : List ℕ) (run : Run) → SpellEach words runs → SpellsRun word run → SpellEach (words ++ (word ∷ [])) (runs ++ (run ∷ []))
each_more [] [] word run each one = (one, tt)
each_more [] (r ∷ runs) word run each one = absurd each
each_more (w ∷ words) [] word run each one = absurd each
each_more (w ∷ words) (r ∷ runs) word run each one = (each.0, each_more words runs word run each.1 one)

letters_more : (runs : List Run) (run : Run) → letters (runs ++ (run ∷ [])) ≡ letters runs ++ replicate run.count run.letter
letters_more [] run = append-nil _
letters_more (r ∷ runs) run = ap (λ l. replicate r.count r.letter ++ l) (letters_more runs run) ∙ sym (append_assoc (replicate r.count r.letter) (letters runs) (replicate run.count run.letter))

front_of : (count m x : ℕ) → take m (replicate count x) ≡ replicate (min count m) x
front_of count m x =
    elim (cases_lt count m) [
      | inl few ↦ let same : min count m ≡ count = omega arith in take_all m (replicate count x) (omega (arith, length-replicate count x)) ∙ ap (λ k. replicate k x) (sym same)
      | inr many ↦ let same : min count m ≡ m = omega arith in take-replicate m count x many ∙ ap (λ k. replicate k x) (sym same)
    ]

-- a list held at n, and so many more of one number as there is room for
held_more : (n count x : ℕ) (xs : List ℕ) → take n xs ++ replicate (min count (n - length (take n xs))) x ≡ take n (xs ++ replicate count x)
held_more n count x xs =
    elim (cases_lt (length xs) n) [
      | inl room ↦
          let whole : take n xs ≡ xs = take_all n xs (omega arith) in
          let left : length xs + (n - length xs) ≡ n = omega arith in
          ap (λ l. l ++ replicate (min count (n - length l)) x) whole
          ∙ ap (λ l. xs ++ l) (sym (front_of count (n - length xs) x))
          ∙ sym (take-append-add xs (replicate count x) (n - length xs))
          ∙ ap (λ k. take k (xs ++ replicate count x)) left
      | inr full ↦
          let none : min count (n - length (take n xs)) ≡ 0 = omega (arith, length-take n xs) in
          ap (λ k. take n xs ++ replicate k x) none ∙ append-nil (take n xs) ∙ sym (take-append-le n xs (replicate count x) full)
    ]

pub log_more : (log before : List ℕ) (runs : List Run) (run : Run) → before ≡ take 2689 (letters runs) → log ≡ before ++ replicate (min run.count (2689 - length before)) run.letter → log ≡ take 2689 (letters (runs ++ (run ∷ [])))
log_more log before runs run is more =
    more ∙ ap (λ l. l ++ replicate (min run.count (2689 - length l)) run.letter) is
    ∙ held_more 2689 run.count run.letter (letters runs) ∙ ap (take 2689) (sym (letters_more runs run))

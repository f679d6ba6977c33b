-- A stream begins with at most one framed text.
use Rattle.std.proofs.Common.{◌≡◌, ℕ, ◌≤◌, List, ◌∷◌, ◌++◌, length, take, drop, decimal, sym, ap, ◌∙◌, subst, arith}
use Rattle.std.proofs.lemmas.List.{length-append, take-append-drop}
use Rattle.std.proofs.Math.Seq.{drop-append_seam}
use Rattle.std.specs.List.{IsSplitAt}
use Rattle.fields.specs.Cuts.{Lacks, Parted}
use Rattle.fields.specs.Numbers.{Spells}
use Rattle.fields.proofs.Cutting.{parted_once, lacks_not}
use Rattle.fields.proofs.Numerals.{decimal_spells, spells_decimal, spells_once}
use Rattle.framed_texts.specs.Frames.{Framed}

-- the digits of a number have no line end
lacks_end : (n : ℕ) → n ≤ 9999 → Lacks 10 (decimal n)
lacks_end n h k lt e = omega (arith, e, (decimal_spells n h).digits k lt)

pub unended : (stream text rest : List ℕ) → Lacks 10 stream → Framed stream text rest → ⊥
unended stream text rest none h = lacks_not 10 (decimal (length text)) (text ++ 10 ∷ rest) (subst (Lacks 10) h.whole none)

-- a stream that is cut at its first line end, and begins with a framed text: the digits spell the text's length, and it stands after them
pub cut_once : (stream digits after text rest : List ℕ) → Parted 10 stream digits after → Framed stream text rest → Spells digits (length text) × (after ≡ text ++ 10 ∷ rest)
cut_once stream digits after text rest cut h =
    let parts = parted_once 10 digits (decimal (length text)) after (text ++ 10 ∷ rest) cut.unbroken (lacks_end (length text) h.few) (sym cut.whole ∙ h.whole) in
    (subst (λ f. Spells f (length text)) (sym parts.0) (decimal_spells (length text) h.few), parts.1)

-- there the text has as many bytes as the digits spell, and its line end and the rest stand after it
pub text_stands : (stream digits after text rest : List ℕ) (n : ℕ) → Parted 10 stream digits after → Spells digits n → Framed stream text rest → (n ≤ length after) × (drop n after ≡ 10 ∷ rest)
text_stands stream digits after text rest n cut spelled h =
    let once = cut_once stream digits after text rest cut h in
    let same : n ≡ length text = spells_once digits n (length text) spelled once.0 in (
      omega (arith, ap length once.1, length-append text (10 ∷ rest)),
      ap (drop n) once.1 ∙ ap (λ k. drop k (text ++ 10 ∷ rest)) same ∙ drop-append_seam text (10 ∷ rest),
    )

-- a stream that is cut so, with as many bytes as the digits spell and then a line end, begins with a framed text
pub stands_framed : (stream digits after text back rest : List ℕ) (n : ℕ) → Parted 10 stream digits after → Spells digits n → n ≤ 9999 → IsSplitAt after n text back → back ≡ 10 ∷ rest → Framed stream text rest
stands_framed stream digits after text back rest n cut spelled few split led =
    let spelling : digits ≡ decimal n = spells_decimal digits n spelled in
    let long : length text ≡ n = split.3 in
    let parts : take n after ++ drop n after ≡ after = take-append-drop n after in
    let front : text ≡ take n after = split.1 in
    let end : back ≡ drop n after = split.2 in
    let whole : stream ≡ digits ++ 10 ∷ after = cut.whole in
    record { few = omega arith; whole = cc }

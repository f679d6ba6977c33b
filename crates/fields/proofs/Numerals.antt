-- Numbers of 1 to 4 digits, and what is written of them.
use Rattle.std.proofs.Common.{◌≡◌, ℕ, ◌^◌, ◌<◌, ◌≤◌, List, ◌∷◌, ◌++◌, length, get_or, take, Some, None, decimal, Option, sym, refl, ap, ◌∙◌, subst, MatchOption, inl, inr, arith, lit<}
use Rattle.std.proofs.lemmas.Fmt.{digits_decimal, digits_value-decimal, decimal-digits_value, decimal_nonempty, length-decimal-le, first_decimal, decimal_digit, decimal_injective}
use Rattle.std.proofs.lemmas.List.{get_or-take, length-take}
use Rattle.std.proofs.lemmas.Str.Parse.{IsNumeralModel, numerals_by_value, tells_by_index, digits_value_short}
use Rattle.std.proofs.lemmas.Bool.{cases_eq}
use Rattle.std.specs.Str.Parse.{digits_value}
use Rattle.std.specs.Int.{IsInRange}
use Rattle.fields.specs.Cuts.{Lacks}
use Rattle.fields.specs.Numbers.{Spells}
use Rattle.fields.proofs.Cutting.{parted_once}

abbrev OfDigits : List ℕ → Type 0
OfDigits ds = (i : ℕ) → i < length ds → IsInRange 48 57 (get_or ds i 0)

own : IsNumeralModel OfDigits (digits_value 10)
own = numerals_by_value OfDigits tells_by_index

pub small : (n : ℕ) → n ≤ 9999 → n < 2 ^ 64
small n h = omega arith

-- a field that spells a number is what is written of it
pub spells_small : (field : List ℕ) (n : ℕ) → Spells field n → n ≤ 9999
spells_small field n h = omega (arith, h.number, digits_value_short own field 4 h.digits h.few)

pub spells_decimal : (field : List ℕ) (n : ℕ) → Spells field n → field ≡ decimal n
spells_decimal field n h =
    let under : n < 2 ^ 64 = small n (spells_small field n h) in
    sym (decimal-digits_value own field h.digits h.some h.plain (subst (λ m. m < 2 ^ 64) h.number under)) ∙ subst (λ m. decimal m ≡ decimal n) h.number refl

decimal_plain : (n : ℕ) → n < 2 ^ 64 → get_or (decimal n) 0 0 ≡ 48 → length (decimal n) ≡ 1
decimal_plain n under e =
    elim (cases_eq n 0) [
      | inl z ↦ ap length (decimal_digit n (omega arith))
      | inr some ↦ let some' : 0 < n = omega arith in absurd (omega (arith, e, first_decimal n some' under))
    ]

-- and what is written of a number up to 9,999 spells it
pub decimal_spells : (n : ℕ) → n ≤ 9999 → Spells (decimal n) n
decimal_spells n h = record {
  some = decimal_nonempty n (small n h);
  few = length-decimal-le 4 n (lit< tt) (omega arith) (small n h);
  digits = digits_decimal own n (small n h);
  plain = decimal_plain n (small n h);
  number = sym (digits_value-decimal own n (small n h));
}

pub spells_once : (field : List ℕ) (m n : ℕ) → Spells field m → Spells field n → m ≡ n
spells_once field m n h k = h.number ∙ sym k.number

-- the digits of a number have no comma
pub lacks_comma : (n : ℕ) → n ≤ 9999 → Lacks 44 (decimal n)
lacks_comma n h k lt e = omega (arith, e, digits_decimal own n (small n h) k lt)

-- a number before a comma is read in one way
pub led_once : (m n : ℕ) (xs ys : List ℕ) → m ≤ 9999 → n ≤ 9999 → decimal m ++ 44 ∷ xs ≡ decimal n ++ 44 ∷ ys → (m ≡ n) × (xs ≡ ys)
led_once m n xs ys hm hn e =
    let parts = parted_once 44 (decimal m) (decimal n) xs ys (lacks_comma m hm) (lacks_comma n hn) e in
    (decimal_injective m n (small m hm) (small n hn) parts.0, parts.1)

-- the reader's answers read back what is written
abbrev pub Inverse : List ℕ → Option ℕ → Type 0
Inverse field r = (n : ℕ) → n ≤ 9999 → (r ≡ Some n → field ≡ decimal n) × (field ≡ decimal n → r ≡ Some n)

pub read_back : (field : List ℕ) (r : Option ℕ) → MatchOption r ((n : ℕ) → Spells field n → ⊥) (Spells field) → Inverse field r
read_back field (Some m) h n few = (
  λ e. let same : m ≡ n = cc in spells_decimal field m h ∙ ap decimal same,
  λ e. ap Some (decimal_injective m n (small m (spells_small field m h)) (small n few) (sym (spells_decimal field m h) ∙ e)),
)
read_back field None none n few =
    (λ e. cc, λ e. absurd (none n (subst (λ f. Spells f n) (sym e) (decimal_spells n few))))

-- the first three digits or fewer write a number below 1,000
pub front_small : (field : List ℕ) (i : ℕ) → i ≤ 3 → ((k : ℕ) → k < i → IsInRange 48 57 (get_or field k 0)) → digits_value 10 (take i field) < 1000
front_small field i few digits =
    digits_value_short own (take i field) 3
    (λ k lt. let below : k < i = omega (arith, length-take i field) in subst (IsInRange 48 57) (sym (get_or-take i field k 0 below)) (digits k below))
    (omega (arith, length-take i field))

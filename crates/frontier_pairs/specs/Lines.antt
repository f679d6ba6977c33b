-- How a pair stands in a line.
--   Says digits n    the text is the number n in decimal digits (a plus may stand first)
--   Line text p      the text is the two numbers of p, with a space between them
--   written p        the text that is printed of p
use Rattle.std.specs.Prelude.{◌≡◌, ℕ, List, ◌∷◌, ◌++◌, codes, decimal}
use Rattle.std.specs.Str.Parse.{IsNumeral, digits_value, without_leading_plus}
use Rattle.frontier_pairs.specs.declared.pair.Pair.{Pair}

abbrev pub Says : List ℕ → ℕ → Type 0
Says digits n = IsNumeral 10 (without_leading_plus digits) × (n ≡ digits_value 10 (without_leading_plus digits))

abbrev pub Line : List ℕ → Pair → Type 0
Line text p =
    (before : List ℕ) × (after : List ℕ) × (text ≡ before ++ (32 ∷ after)) × Says before p.first × Says after p.second

abbrev pub written : Pair → List ℕ
written p = decimal p.first ++ (codes " " ++ decimal p.second)

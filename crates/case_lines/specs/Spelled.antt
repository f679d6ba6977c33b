-- How a line of a case spells a log. `us7 W240 R40 D1` is a name, and 240 W, 40 R and 1 D after it. Assumes nothing.
--   Held digits n             the digits spell a number that is n when it is held at 2689, one more than a log may have; no digit is 0
--   SpellsRun word run        the word is the run's letter, any byte, and then its count in digits
--   Begins text words rest    words are the first words of the text, which white space parts, and rest is what is left of it
--   SpellEach words runs      the words spell the runs, one each
--   letters runs              the letters of the runs, one run after the other
--   NoRun text                a word of the text after the first spells no run
--   SpellsLog text log        every word after the first spells a run, and the log is the letters of these, up to 2689
--   NoCase text               the text has no word, or one after the first that spells no run
--   SpellsCase text name log  the name is the text's first word, and the words after it spell the log
use Rattle.std.specs.Prelude.{◌≡◌, ℕ, ◌<◌, ◌⊎◌, min, List, [], ◌∷◌, ◌++◌, length, take, drop, replicate, slice_index}
use Rattle.std.specs.Char.{is_whitespace, is_not_whitespace}
use Rattle.std.specs.Int.{IsInRange}
use Rattle.std.specs.Str.{NoCharPasses, EmptyOrStartsWithPassing}
use Rattle.std.specs.Str.Parse.{digits_value}
use Rattle.case_lines.specs.declared.run.Run.{Run}

pub record Held (digits : List ℕ) (n : ℕ) : Type 0 where
  pub plain : (k : ℕ) → k < length digits → IsInRange 48 57 (slice_index digits k)
  pub number : n ≡ min 2689 (digits_value 10 digits)

abbrev pub SpellsRun : List ℕ → Run → Type 0
SpellsRun word run = (digits : List ℕ) × (word ≡ run.letter ∷ digits) × Held digits run.count

-- white space, a word up to the next white space or the end, and so on
abbrev pub Begins : List ℕ → List (List ℕ) → List ℕ → Type 0
Begins text [] rest = text ≡ rest
Begins text (word ∷ words) rest =
    (gap : List ℕ) × (after : List ℕ) × (text ≡ gap ++ (word ++ after)) × (0 < length word) × NoCharPasses is_not_whitespace gap
    × NoCharPasses is_whitespace word × ((more : List ℕ) × EmptyOrStartsWithPassing is_whitespace after more) × Begins after words rest

abbrev pub SpellEach : List (List ℕ) → List Run → Type 0
SpellEach [] [] = Unit {0}
SpellEach [] (run ∷ runs) = ⊥
SpellEach (word ∷ words) [] = ⊥
SpellEach (word ∷ words) (run ∷ runs) = SpellsRun word run × SpellEach words runs

abbrev pub letters : List Run → List ℕ
letters [] = []
letters (run ∷ runs) = replicate run.count run.letter ++ letters runs

abbrev pub NoRun : List ℕ → Type 0
NoRun text =
    (words : List (List ℕ)) × (word : List ℕ) × (rest : List ℕ) × (0 < length words) × Begins text (words ++ (word ∷ [])) rest × ((run : Run) → SpellsRun word run → ⊥)

abbrev pub SpellsLog : List ℕ → List ℕ → Type 0
SpellsLog text log =
    (words : List (List ℕ)) × (rest : List ℕ) × (runs : List Run) × Begins text words rest × NoCharPasses is_not_whitespace rest × SpellEach (drop 1 words) runs
    × (log ≡ take 2689 (letters runs))

abbrev pub NoCase : List ℕ → Type 0
NoCase text = NoCharPasses is_not_whitespace text ⊎ NoRun text

abbrev pub SpellsCase : List ℕ → List ℕ → List ℕ → Type 0
SpellsCase text name log = ((rest : List ℕ) × Begins text (name ∷ []) rest) × SpellsLog text log

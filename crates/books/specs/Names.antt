-- The named rule sets, by their names and by the rules of their layers. Assumes nothing.
use Rattle.std.specs.Prelude.{◌≡◌, ℕ, List, [], ◌∷◌, Ok, Err, Result, codes}
use Rattle.books.specs.declared.pause.Pause.TheVariants as kind
use Rattle.books.specs.declared.sets.NoSuchSet.{NoSuchSet}
use Rattle.books.specs.declared.sets.RuleSet.{RuleSet}
use Rattle.books.specs.declared.sets.RuleSet.TheVariants as set
use Rattle.books.specs.Sentences.{Rule}
use Rattle.books.specs.Sets.{shift_rules, break_rules, cycle_rules, day_rules, weeks_rules, weekly_rest_rules}

abbrev pub set_name : RuleSet → List ℕ
set_name set.Us7 = codes "us7"
set_name set.Us8 = codes "us8"
set_name set.Eu = codes "eu"

-- what a name finds: the set that has it, or that no set has it
abbrev pub SetNamed : List ℕ → Result RuleSet NoSuchSet → Type 0
SetNamed name (Ok found) = name ≡ set_name found
SetNamed name (Err why) = (other : RuleSet) → name ≡ set_name other → ⊥

-- the layers of a US set: the shift, a break after 32 quarters, of 2 off the wheel, and a cycle with a restart of 136
abbrev pub us_rules : ℕ → ℕ → List (List Rule)
us_rules days limit = shift_rules ∷ break_rules 32 2 kind.OffWheel ∷ cycle_rules days limit 136 ∷ []

-- the EU day, a break after 18 quarters, of 3 of rest, the weeks and the weekly rest
abbrev pub eu_rules : List (List Rule)
eu_rules = day_rules ∷ break_rules 18 3 kind.Rest ∷ weeks_rules ∷ weekly_rest_rules ∷ []

abbrev pub sentences : RuleSet → List (List Rule)
sentences set.Us7 = us_rules 7 240
sentences set.Us8 = us_rules 8 280
sentences set.Eu = eu_rules

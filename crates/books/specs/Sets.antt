-- Rule sets: which logs keep one, and the first breach of a log that does not. Assumes nothing.
--   a rule set            its layers from the bottom, each a list of rules
--   placed n set          its rules, each with its layer's number, where the lowest layer is n
--   Among x xs            x is one of xs
--   KeepsAll set l q      quarter q keeps every rule of the set
--   Lawful set l          every quarter of the log does
--   FirstBreach set l b   the first quarter that breaks a rule, with the lowest rule of the lowest layer that it breaks
use Rattle.std.specs.Prelude.{◌≡◌, ℕ, ◌+◌, ◌<◌, ◌⊎◌, List, [], ◌∷◌, ◌++◌, map, length}
use Rattle.duty.specs.declared.Duty.{Duty}
use Rattle.rules.specs.declared.breach.Breach.{Breach}
use Rattle.books.specs.declared.pause.Pause.{Pause}
use Rattle.books.specs.Sentences.{Rule, rule_number, Keeps, shift_elapsed, shift_driving, driving_break, duty_cycle, day_elapsed, day_driving, week_driving, fortnight_driving, weekly_rest}

abbrev pub placed : ℕ → List (List Rule) → List (ℕ × Rule)
placed n [] = []
placed n (layer ∷ layers) = map (λ rule. (n, rule)) layer ++ placed (n + 1) layers

abbrev pub Among : {X : Type 0} → X → List X → Type 0
Among x [] = ⊥
Among x (y ∷ ys) = (x ≡ y) ⊎ Among x ys

abbrev pub KeepsAll : List (List Rule) → List Duty → ℕ → Type 0
KeepsAll set l q = (layer : ℕ) (rule : Rule) → Among (layer, rule) (placed 1 set) → Keeps rule l q

abbrev pub Lawful : List (List Rule) → List Duty → Type 0
Lawful set l = (q : ℕ) → q < length l → KeepsAll set l q

-- of a lower layer, or of the same layer and with a lower number
abbrev pub Lower : ℕ → ℕ → ℕ → ℕ → Type 0
Lower layer number layer' number' = (layer < layer') ⊎ ((layer ≡ layer') × (number < number'))

pub record FirstBreach (set : List (List Rule)) (l : List Duty) (b : Breach) : Type 0 where
  pub within : b.quarter < length l
  pub before : (k : ℕ) → k < b.quarter → KeepsAll set l k
  pub broken : (rule : Rule) × Among (b.layer, rule) (placed 1 set) × (rule_number rule ≡ b.rule) × (Keeps rule l b.quarter → ⊥)
  pub lowest : (layer : ℕ) (rule : Rule) → Among (layer, rule) (placed 1 set) → Lower layer (rule_number rule) b.layer b.rule → Keeps rule l b.quarter

-- the layers
abbrev pub shift_rules : List Rule
shift_rules = shift_elapsed ∷ shift_driving ∷ []

abbrev pub break_rules : ℕ → ℕ → Pause → List Rule
break_rules limit len kind = driving_break limit len kind ∷ []

abbrev pub cycle_rules : ℕ → ℕ → ℕ → List Rule
cycle_rules days limit restart = duty_cycle days limit restart ∷ []

abbrev pub day_rules : List Rule
day_rules = day_elapsed ∷ day_driving ∷ []

abbrev pub weeks_rules : List Rule
weeks_rules = week_driving ∷ fortnight_driving ∷ []

abbrev pub weekly_rest_rules : List Rule
weekly_rest_rules = weekly_rest ∷ []

-- What a whole text asks. Assumes nothing.
--   ReadFrom n text rs   rs has what each line of the text says, where its first line counts as line n
--   set_read rs          the rule set: that of the first line, or us7 where that names none
--   call_read r          the call that a line asks for, if any
--   calls_read rs        the calls, in the order of their lines
use Rattle.std.specs.Prelude.{◌≡◌, ℕ, ◌+◌, ◌<◌, List, [], ◌∷◌, length, Some, None, Ok, Err, Option, Result}
use Rattle.std.specs.List.{filter_map}
use Rattle.rules.specs.declared.refusal.Refusal.{Refusal}
use Rattle.books.specs.declared.sets.RuleSet.{RuleSet}
use Rattle.books.specs.declared.sets.RuleSet.TheVariants as set
use Rattle.fields.specs.Cuts.{FirstLine}
use Rattle.planner.specs.declared.call.Call.{Call}
use Rattle.lines.specs.declared.line.Line.{Line}
use Rattle.lines.specs.declared.line.Line.TheVariants as line
use Rattle.lines.specs.Says.{Reads}

-- an empty text has no line
abbrev pub ReadFrom : ℕ → List ℕ → List (Result Line Refusal) → Type 0
ReadFrom n text [] = text ≡ []
ReadFrom n text (r ∷ rs) =
    (first : List ℕ) × (rest : List ℕ) × (0 < length text) × FirstLine text first rest × Reads n first r × ReadFrom (n + 1) rest rs

abbrev pub default_set : RuleSet
default_set = set.Us7

abbrev pub set_read : List (Result Line Refusal) → RuleSet
set_read [] = default_set
set_read (Ok (line.Rules s) ∷ rs) = s
set_read (Ok (line.Call call) ∷ rs) = default_set
set_read (Err why ∷ rs) = default_set

abbrev pub call_read : Result Line Refusal → Option Call
call_read (Ok (line.Rules s)) = None
call_read (Ok (line.Call call)) = Some call
call_read (Err why) = None

abbrev pub calls_read : List (Result Line Refusal) → List Call
calls_read = filter_map call_read

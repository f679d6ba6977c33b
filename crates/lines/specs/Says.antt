-- What a line says. Assumes nothing.
--   plan_call            the call of the line `plan`
--   spelled x            the line that asks for x: its kind and its fields, parted by commas (byte 44), numbers by their decimal digits
--   Fits place x         x can be asked at that place of a text, counted from 1; a number has at most 4 digits
--   Says place line x    the line at that place asks for x
--   Reads place line r   Ok x: the line asks for x and for nothing else; Err: it is refused as spelled wrong, and asks for nothing
use Rattle.std.specs.Prelude.{◌≡◌, ℕ, ◌≤◌, List, ◌∷◌, ◌++◌, Ok, Err, codes, decimal, Result, ◌≢◌}
use Rattle.rules.specs.declared.refusal.Refusal.{Refusal}
use Rattle.rules.specs.declared.refusal.Refusal.TheVariants as why
use Rattle.books.specs.Names.{set_name}
use Rattle.planner.specs.declared.call.Call.{Call}
use Rattle.planner.specs.declared.call.Call.TheVariants.{Record, Add, Drop, Plan}
use Rattle.lines.specs.declared.line.Line.{Line}
use Rattle.lines.specs.declared.line.Line.TheVariants as ask

-- a plan's sheet of labels, its trail and its output
abbrev pub plan_call : Call
plan_call = Plan (record { labels = 144; predecessors = 18432; output = 384 })

abbrev pub spelled : Line → List ℕ
spelled (ask.Rules set) = codes "rules," ++ set_name set
spelled (ask.Call (Record letter count)) = codes "done," ++ (letter ∷ 44 ∷ decimal count)
spelled (ask.Call (Add stop)) =
    codes "stop," ++ (decimal stop.drive ++ 44 ∷ (decimal stop.service ++ 44 ∷ (decimal stop.opens ++ 44 ∷ decimal stop.closes)))
spelled (ask.Call Drop) = codes "drop"
spelled (ask.Call (Plan buffers)) = codes "plan"

abbrev pub Fits : ℕ → Line → Type 0
Fits place (ask.Rules set) = place ≡ 1
Fits place (ask.Call (Record letter count)) = (letter ≢ 44) × (count ≤ 9999)
Fits place (ask.Call (Add stop)) = (stop.drive ≤ 9999) × (stop.service ≤ 9999) × (stop.opens ≤ 9999) × (stop.closes ≤ 9999)
Fits place (ask.Call Drop) = Unit {0}
Fits place (ask.Call (Plan buffers)) = Plan buffers ≡ plan_call

pub record Says (place : ℕ) (line : List ℕ) (x : Line) : Type 0 where
  pub fits : Fits place x
  pub spelling : line ≡ spelled x

abbrev pub Reads : ℕ → List ℕ → Result Line Refusal → Type 0
Reads place line (Ok x) = Says place line x × ((y : Line) → Says place line y → y ≡ x)
Reads place line (Err r) = (r ≡ why.Spelling) × ((x : Line) → Says place line x → ⊥)

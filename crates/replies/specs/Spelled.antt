-- Answers spelled as lines, each ended with byte 10. Assumes nothing.
--   run_line run                    a run: its first quarter, its letter and its length
--   refused_line n why              the line n was refused, with the refusal's number, and for a breach its quarter, rule and layer
--   PlanLines n end letters lines   the lines of a plan that line n asks for: its runs and its end
--   AnswerLines n a lines           the lines that answer line n, where its call is answered by a
use Rattle.std.specs.Prelude.{◌≡◌, ℕ, ◌-◌, List, [], ◌∷◌, ◌++◌, length, Some, None, Ok, Err, vec_items, codes, decimal}
use Rattle.std.specs.List.{flat_map}
use Rattle.rules.specs.declared.refusal.Refusal.{Refusal}
use Rattle.rules.specs.Refusals.{spelled}
use Rattle.planner.specs.Promise.{Answer}
use Rattle.replies.specs.declared.runs.Run.{Run}
use Rattle.replies.specs.Schedules.{RunsFrom}

abbrev pub run_line : Run → List ℕ
run_line run = decimal run.first ++ (codes "," ++ (run.letter ∷ codes "," ++ (decimal run.count ++ 10 ∷ [])))

abbrev pub refused_line : ℕ → Refusal → List ℕ
refused_line n r = codes "refused," ++ (decimal n ++ (codes "," ++ (spelled r ++ 10 ∷ [])))

-- a schedule begins as many quarters before its end as it has letters
abbrev pub PlanLines : ℕ → ℕ → List ℕ → List ℕ → Type 0
PlanLines n end letters lines =
    (runs : List Run)
    × RunsFrom (end - length letters) letters runs
    × (lines ≡ (codes "plan," ++ (decimal n ++ 10 ∷ [])) ++ (flat_map run_line runs ++ (codes "end," ++ (decimal end ++ 10 ∷ []))))

abbrev pub AnswerLines : ℕ → Answer → List ℕ → Type 0
AnswerLines n (Ok None) lines = lines ≡ []
AnswerLines n (Ok (Some s)) lines = PlanLines n s.end (vec_items s.letters) lines
AnswerLines n (Err r) lines = lines ≡ refused_line n r

-- The reply to a text, by what its lines say and the answers to their calls. Assumes nothing.
--   LineReplied n r as lines as'   the lines that answer line n, which says r; its call, if it asks for one, is answered by the first of
--                                  the answers as, and as' are the answers left
--   Replied n rs as reply          the reply to the lines that say rs, from line n on, by the answers as, each to its call
use Rattle.std.specs.Prelude.{◌≡◌, ℕ, ◌+◌, List, [], ◌∷◌, ◌++◌, Ok, Err, Result}
use Rattle.rules.specs.declared.refusal.Refusal.{Refusal}
use Rattle.planner.specs.Promise.{Answer}
use Rattle.lines.specs.declared.line.Line.{Line}
use Rattle.lines.specs.declared.line.Line.TheVariants as line
use Rattle.replies.specs.Spelled.{refused_line, AnswerLines}

abbrev pub LineReplied : ℕ → Result Line Refusal → List Answer → List ℕ → List Answer → Type 0
LineReplied n (Ok (line.Rules set)) answers lines answers' = (lines ≡ []) × (answers' ≡ answers)
LineReplied n (Ok (line.Call call)) answers lines answers' = (a : Answer) × (answers ≡ a ∷ answers') × AnswerLines n a lines
LineReplied n (Err why) answers lines answers' = (lines ≡ refused_line n why) × (answers' ≡ answers)

abbrev pub Replied : ℕ → List (Result Line Refusal) → List Answer → List ℕ → Type 0
Replied n [] answers reply = (answers ≡ []) × (reply ≡ [])
Replied n (r ∷ rs) answers reply =
    (lines : List ℕ) × (rest : List ℕ) × (answers' : List Answer) × LineReplied n r answers lines answers' × Replied (n + 1) rs answers' rest × (reply ≡ lines ++ rest)

use Rattle.std.proofs.Common.{◌+◌, ◌≤◌, List, ◌++◌, length, vec_items, vec_len, Result}
use Rattle.rules.specs.declared.refusal.Refusal.{Refusal}
use Rattle.lines.specs.declared.line.Line.{Line}
use Rattle.lines.specs.Texts.{ReadFrom}
use Rattle.lines.proofs.whole.read_text.Given as goal

-- what the lines left say, behind what was read so far, is what all lines say
abbrev pub invariant-loop-rest : goal.invariant-loop-rest
invariant-loop-rest l =
    (vec_len l.readings + length l.rest ≤ length l.text)
    × ((more : List (Result Line Refusal)) → ReadFrom (vec_len l.readings + 1) l.rest more → ReadFrom 1 l.text (vec_items l.readings ++ more))

abbrev pub decreases-loop-rest : goal.decreases-loop-rest
decreases-loop-rest l = length l.rest

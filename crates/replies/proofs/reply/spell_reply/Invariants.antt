use Rattle.std.proofs.Common.{◌≡◌, ℕ, ◌+◌, List, ◌++◌, length, drop, vec_items}
use Rattle.lines.specs.Texts.{calls_read}
use Rattle.replies.specs.Replies.{Replied}
use Rattle.replies.proofs.reply.spell_reply.Given as goal

-- there is an answer for each call left, and the reply so far goes before any reply to the lines left
abbrev pub invariant-loop-i : goal.invariant-loop-i
invariant-loop-i l =
    (length (calls_read (drop l.i l.readings)) ≡ length l.left)
    × ((more : List ℕ) → Replied (l.i + 1) (drop l.i l.readings) l.left more → Replied 1 l.readings l.answers (vec_items l.reply.bytes ++ more))

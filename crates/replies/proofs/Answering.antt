-- A reply line by line.
use Rattle.std.proofs.Common.{◌≡◌, ℕ, ◌+◌, ◌<◌, List, ◌++◌, length, get_or, drop, Some, None, Ok, Err, Option, Result, sym, refl, ap, ◌∙◌, subst, arith}
use Rattle.std.proofs.lemmas.List.{drop_more}
use Rattle.std.specs.List.{cons_option}
use Rattle.std.specs.Option.{option_len}
use Rattle.rules.specs.declared.refusal.Refusal.{Refusal}
use Rattle.planner.specs.Promise.{Answer}
use Rattle.planner.specs.declared.call.Call.{Call}
use Rattle.lines.specs.declared.line.Line.{Line}
use Rattle.lines.specs.declared.line.Line.TheVariants as line
use Rattle.lines.specs.Texts.{call_read, calls_read}
use Rattle.replies.specs.Replies.{LineReplied, Replied}

-- a line takes one answer if it asks for a call
pub line_takes : (n : ℕ) (reading : Result Line Refusal) (answers : List Answer) (lines : List ℕ) (answers' : List Answer) → LineReplied n reading answers lines answers' → length answers ≡ option_len (call_read reading) + length answers'
line_takes n (Ok (line.Rules set)) answers lines answers' h = omega (arith, ap length h.1)
line_takes n (Ok (line.Call call)) answers lines answers' h = omega (arith, ap length h.1)
line_takes n (Err why) answers lines answers' h = omega (arith, ap length h.1)

-- the calls of what is left, with the first line or without it
with_first : (o : Option Call) (calls : List Call) → length (cons_option o calls) ≡ option_len o + length calls
with_first None calls = omega arith
with_first (Some call) calls = omega arith

pub calls_more : (readings : List (Result Line Refusal)) (i : ℕ) (d : Result Line Refusal) → i < length readings → length (calls_read (drop i readings)) ≡ option_len (call_read (get_or readings i d)) + length (calls_read (drop (i + 1) readings))
calls_more readings i d lt = ap (λ rs. length (calls_read rs)) (drop_more readings i d lt) ∙ with_first _ _

-- one line more
pub replied_more : (n : ℕ) (readings : List (Result Line Refusal)) (i : ℕ) (d : Result Line Refusal) (answers answers' : List Answer) (lines more : List ℕ) → i < length readings → LineReplied n (get_or readings i d) answers lines answers' → Replied (n + 1) (drop (i + 1) readings) answers' more → Replied n (drop i readings) answers (lines ++ more)
replied_more n readings i d answers answers' lines more lt h k =
    subst (λ rs. Replied n rs answers (lines ++ more)) (sym (drop_more readings i d lt)) (lines, more, answers', h, k, refl)

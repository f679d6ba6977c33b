-- What the judge says of a log under a rule set, in the words of the sentences. Assumes nothing.
--   FoundBy set l n o       the lawful length n of l, with the first breach if there is one
--   JudgedBy set bytes r    the judge's answer: the refusals in their order, or what is found in the log that the bytes spell
use Rattle.std.specs.Prelude.{◌≡◌, ℕ, ◌≤◌, List, length, Some, None, Ok, Err, Option, Result}
use Rattle.duty.specs.declared.Duty.{Duty}
use Rattle.duty.specs.Duties.{Letters, spelt}
use Rattle.rules.specs.declared.breach.Breach.{Breach}
use Rattle.rules.specs.declared.refusal.Refusal.{Refusal}
use Rattle.rules.specs.Judged.{RefusedLog}
use Rattle.books.specs.Sentences.{Rule}
use Rattle.books.specs.Sets.{Lawful, FirstBreach}

abbrev pub FoundBy : List (List Rule) → List Duty → ℕ → Option Breach → Type 0
FoundBy set l n None = (n ≡ length l) × Lawful set l
FoundBy set l n (Some b) = (n ≡ b.quarter) × FirstBreach set l b

abbrev pub JudgedBy : List (List Rule) → List ℕ → Result (ℕ × Option Breach) Refusal → Type 0
JudgedBy set bytes (Err why) = RefusedLog bytes why
JudgedBy set bytes (Ok found) = (length bytes ≤ 2688) × Letters bytes × FoundBy set (spelt bytes) found.0 found.1

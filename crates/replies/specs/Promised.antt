-- What is promised of a whole text. Assumes nothing.
--   KeptUnder set calls answers    each answer fits its call in turn, on a new card and a new tour under that rule set, where a log is
--                                  lawful when it keeps the sentences of the set
--   AnswersUnder set h call a h'   the answer a fits the call after the history h under that set, and h' is the history then
--   BreachesFirst                  a breach that refuses a record is the first breach, by the sentences of the set, of the log that
--                                  the record would have made
--   Reply text reply               the reply spells answers that keep this promise for the calls that the text asks for
--   Answered text before after r   the answer r to a text, where the output held before and holds after
use Rattle.std.specs.Prelude.{◌≡◌, ℕ, ◌<◌, ◌≤◌, ◌⊎◌, List, ◌++◌, length, drop, replicate, Some, Ok, Err, Result}
use Rattle.std.specs.declared.alloc.AllocError.{AllocError}
use Rattle.duty.specs.declared.Duty.{Duty}
use Rattle.duty.specs.Duties.{duty_of}
use Rattle.rules.specs.declared.breach.Breach.{Breach}
use Rattle.rules.specs.declared.refusal.Refusal.{Refusal}
use Rattle.rules.specs.declared.refusal.Refusal.TheVariants as why
use Rattle.rules.specs.Refusals.{number}
use Rattle.books.specs.Sets.{Lawful, FirstBreach}
use Rattle.books.specs.declared.sets.RuleSet.{RuleSet}
use Rattle.books.specs.declared.sets.RuleSet.TheVariants as set
use Rattle.books.specs.Machines.{us_names, us_after, us_better, eu_names, eu_after, eu_better}
use Rattle.books.specs.Names.{sentences}
use Rattle.books.specs.Piles.{opened_us, opened_eu}
use Rattle.planner.specs.declared.call.Call.{Call}
use Rattle.planner.specs.declared.call.Call.TheVariants.{Record}
use Rattle.planner.specs.History.{History, fresh}
use Rattle.planner.specs.Promise.{Answer, Answers, Kept}
use Rattle.lines.specs.declared.line.Line.{Line}
use Rattle.lines.specs.Texts.{ReadFrom, set_read, calls_read}
use Rattle.replies.specs.Replies.{Replied}

abbrev pub KeptUnder : RuleSet → List Call → List Answer → Type 0
KeptUnder set.Us7 calls answers = Kept us_names us_after us_better (opened_us 7 240) (Lawful (sentences set.Us7)) fresh calls answers
KeptUnder set.Us8 calls answers = Kept us_names us_after us_better (opened_us 8 280) (Lawful (sentences set.Us8)) fresh calls answers
KeptUnder set.Eu calls answers = Kept eu_names eu_after eu_better opened_eu (Lawful (sentences set.Eu)) fresh calls answers

abbrev pub AnswersUnder : RuleSet → History → Call → Answer → History → Type 0
AnswersUnder set.Us7 h call a h' = Answers us_names us_after us_better (opened_us 7 240) (Lawful (sentences set.Us7)) h call a h'
AnswersUnder set.Us8 h call a h' = Answers us_names us_after us_better (opened_us 8 280) (Lawful (sentences set.Us8)) h call a h'
AnswersUnder set.Eu h call a h' = Answers eu_names eu_after eu_better opened_eu (Lawful (sentences set.Eu)) h call a h'

abbrev pub BreachesFirst : Type 0
BreachesFirst =
    (s : RuleSet) (h h' : History) (letter count : ℕ) (x : Duty) (b : Breach) → duty_of letter ≡ Some x → AnswersUnder s h (Record letter count) (Err (why.Breach b)) h' → FirstBreach (sentences s) (h.log ++ replicate count x) b

pub record Reply (text reply : List ℕ) : Type 0 where
  pub readings : List (Result Line Refusal)
  pub read : ReadFrom 1 text readings
  pub answers : List Answer
  pub kept : KeptUnder (set_read readings) (calls_read readings) answers
  pub spelled : Replied 1 readings answers reply

-- the text was read and the reply stands at the front of the output; or the text is too long, or the output too short; or memory was
-- wanting, which a text that is too long never comes to
abbrev pub Answered : List ℕ → List ℕ → List ℕ → Result (Result ℕ Refusal) AllocError → Type 0
Answered text before after (Ok (Ok n)) =
    (length text ≤ 4096) × ((reply : List ℕ) × Reply text reply × (n ≡ length reply) × (n ≤ length before) × (after ≡ reply ++ drop n before))
Answered text before after (Ok (Err r)) =
    ((number r ≡ 2) × (4096 < length text) × (after ≡ before))
    ⊎ ((number r ≡ 9) × (length text ≤ 4096) × ((reply : List ℕ) × Reply text reply × (length before < length reply)) × (after ≡ replicate (length before) 0))
Answered text before after (Err e) = (length text ≤ 4096) × (after ≡ before)

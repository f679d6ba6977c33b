-- A card and a tour beside a history. Assumes nothing.
--   StandsFor .. h     the card's row and quarter are where the recorded log leads, and the tour's stops are those left
--   AnswersPlan .. a   the answer to a plan, by the card and the tour
--   AnswersCall .. a   whatever history they stand for, the answer fits it, and they stand for the history after it
--   answer_of r        done, or refused
use Rattle.std.specs.Prelude.{◌≡◌, ℕ, ◌-◌, ◌⊎◌, List, length, take, Some, None, Ok, Err, vec_items, Option, Result}
use Rattle.duty.specs.declared.Duty.{Duty}
use Rattle.rules.specs.declared.breach.Violation.{Violation}
use Rattle.rules.specs.declared.refusal.Refusal.{Refusal}
use Rattle.rules.specs.Refusals.{number}
use Rattle.rules.specs.Walk.{led, Allowed}
use Rattle.planning.specs.declared.Stop.{Stop}
use Rattle.planner.specs.declared.call.Buffers.{Buffers}
use Rattle.planner.specs.declared.call.Call.{Call}
use Rattle.planner.specs.History.{History, width, span}
use Rattle.planner.specs.Outcome.{NoneEnds, Crowds}
use Rattle.planner.specs.Plans.{Unready, Ready, Schedule}
use Rattle.planner.specs.Promise.{Answer, Answers}

pub record StandsFor {R : Type 0} (names : R → ℕ → Duty → Option Violation) (after : R → ℕ → Duty → R) (opened row : R) (now : ℕ) (stops : List Stop) (h : History) : Type 0 where
  pub state : row ≡ led after opened 0 h.log
  pub recorded : Allowed names after opened 0 h.log
  pub at : now ≡ length h.log
  pub tour : stops ≡ h.stops

abbrev pub answer_of : Result (Unit {0}) Refusal → Answer
answer_of (Ok u) = Ok None
answer_of (Err why) = Err why

abbrev pub AnswersPlan : {R : Type 0} → (R → ℕ → Duty → Option Violation) → (R → ℕ → Duty → R) → (R → R → Type 0) → List Stop → R → ℕ → Buffers → Answer → Type 0
AnswersPlan names after better stops start now b (Ok None) = ⊥
AnswersPlan names after better stops start now b (Err why) =
    Unready stops now b.labels b.predecessors b.output why
    ⊎ (Ready stops now b.labels b.predecessors b.output × (((number why ≡ 10) × NoneEnds names after better stops start now (width b.labels) (span stops now)) ⊎ ((number why ≡ 11) × Crowds names after better stops start now (width b.labels) (span stops now))))
AnswersPlan names after better stops start now b (Ok (Some s)) =
    Ready stops now b.labels b.predecessors b.output × ((out : List ℕ) × Schedule names after better stops start now (width b.labels) out s.end × (vec_items s.letters ≡ take (s.end - now) out))

abbrev pub AnswersCall : {R : Type 0} → (R → ℕ → Duty → Option Violation) → (R → ℕ → Duty → R) → (R → R → Type 0) → (R → Type 0) → (R → R) → (R → List Duty → Type 0) → R → ℕ → List Stop → Call → Answer → R → ℕ → List Stop → Type 0
AnswersCall {R} names after better sound opened lawful row now stops call a row' now' stops' =
    (s : R) → sound s → (h : History) → StandsFor names after (opened s) row now stops h → (h' : History) × Answers names after better (opened s) (lawful s) h call a h' × StandsFor names after (opened s) row' now' stops' h'

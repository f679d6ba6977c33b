-- A plan by the card and the tour, in the words of the promise.
use Rattle.std.proofs.Common.{ℕ, ◌+◌, ◌<◌, ◌≤◌, List, length, IfOk, Some, None, Ok, Err, Option, Result, refl, subst, inl, inr, arith}
use Rattle.duty.specs.declared.Duty.{Duty}
use Rattle.rules.specs.declared.breach.Violation.{Violation}
use Rattle.rules.specs.Walk.{led, Allowed}
use Rattle.planning.specs.declared.Stop.{Stop}
use Rattle.planner.specs.declared.call.Buffers.{Buffers}
use Rattle.planner.specs.declared.call.Call.TheVariants.{Plan}
use Rattle.planner.specs.History.{History, now_of, last_stop, width}
use Rattle.planner.specs.Promise.{Answer, Answers}
use Rattle.planner.specs.Standing.{StandsFor, AnswersPlan}
use Rattle.planner.proofs.Promised.{crowds-crowded, none-infeasible, schedule-planned}

module _ {R : Type 0} (names : R → ℕ → Duty → Option Violation) (after : R → ℕ → Duty → R) (better : R → R → Type 0) (opened : R) (lawful : List Duty → Type 0) (judged : (l : List Duty) → length l ≤ 2688 → (lawful l → Allowed names after opened 0 l) × (Allowed names after opened 0 l → lawful l)) (h : History) (recorded : Allowed names after opened 0 h.log) (fits : 0 < length h.stops → (last_stop h.stops).closes + (last_stop h.stops).service ≤ 2688) (b : Buffers) where
  promised_plan : (a : Answer) → AnswersPlan names after better h.stops (led after opened 0 h.log) (now_of h) b a → Answers names after better opened lawful h (Plan b) a h
  promised_plan (Ok None) a = absurd a
  promised_plan (Err why) (inl unready) = (refl, inl unready)
  promised_plan (Err why) (inr (ready, inl ten)) =
      let none = none-infeasible names after better opened lawful judged h recorded ready.stop (fits ready.stop) (width b.labels) ten.1 in (
        refl,
        inr (
          ready,
          inl ten.0,
          record {
            eleven = ((λ other. absurd (omega (arith, ten.0, other))), (λ crowded. absurd (none.1 crowded)));
            ten = λ _. ((λ _. none.0), (λ _. ten.0));
          },
        ),
      )
  promised_plan (Err why) (inr (ready, inr eleven)) =
      let crowded = crowds-crowded names after better opened lawful judged h recorded ready.stop (fits ready.stop) (width b.labels) eleven.1 in (
        refl,
        inr (
          ready,
          inr eleven.0,
          record { eleven = ((λ _. crowded), (λ _. eleven.0)); ten = λ other. absurd (other eleven.0) },
        ),
      )
  promised_plan (Ok (Some s)) a =
      let planned = schedule-planned names after better opened lawful judged h recorded a.0.stop (fits a.0.stop) (width b.labels) a.1.0 s.end a.1.1 _ a.1.2 in (
        refl,
        a.0,
        planned.0,
        record {
          eleven = ((λ none. absurd none), (λ crowded. absurd (planned.1 crowded)));
          ten = λ _. ((λ none. absurd none), (λ infeasible. absurd (infeasible planned.0.letters s.end planned.0.completes)));
        },
      )

  pub standing_plan : (row : R) (now : ℕ) (stops : List Stop) (a : Answer) → StandsFor names after opened row now stops h → AnswersPlan names after better stops row now b a → Answers names after better opened lawful h (Plan b) a h
  standing_plan row now stops a stands answers =
      promised_plan a
      (subst (λ n. AnswersPlan names after better h.stops (led after opened 0 h.log) n b a) stands.at
      (subst (λ s. AnswersPlan names after better h.stops s now b a) stands.state (subst (λ s. AnswersPlan names after better s row now b a) stands.tour answers)))

-- what follows from what was made
pub made_more : {X Y : Type 0} (r : Result X Y) (P Q : X → Type 0) → ((x : X) → P x → Q x) → IfOk r P → IfOk r Q
made_more (Ok x) P Q more p = more x p
made_more (Err y) P Q more p = tt

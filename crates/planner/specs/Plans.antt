-- What plan answers, by the card's row and quarter and the tour's stops, and what it leaves in the buffers. Assumes nothing.
--   Unready .. r                    the first of the refusals 6 to 9 that applies
--   Ready ..                        none of them applies
--   Sized .. r                      the width and the span, or the first of those refusals
--   Schedule .. out e               the letters at the front of the output serve the tour lawfully and end at e, and no lawful others end earlier
--   Solved .. out r                 a schedule; 10, no lawful letters serve the tour; 11, too many labels are needed
--   Planned .. r                    the answer to any call
--   Left r before after cleared     what a working buffer holds then: after 6 to 9 what it held, else it is cleared
--   OutputLeft now r before after   what the output holds behind the letters
use Rattle.std.specs.Prelude.{◌≡◌, ℕ, ◌+◌, ◌-◌, ◌*◌, ◌<◌, ◌≤◌, ◌⊎◌, List, [], map, length, take, drop, Ok, Err, Option, Result}
use Rattle.duty.specs.declared.Duty.{Duty}
use Rattle.duty.specs.Duties.{letter_of}
use Rattle.rules.specs.declared.breach.Violation.{Violation}
use Rattle.rules.specs.declared.refusal.Refusal.{Refusal}
use Rattle.rules.specs.Refusals.{number}
use Rattle.rules.specs.Walk.{Allowed}
use Rattle.planning.specs.declared.Stop.{Stop}
use Rattle.planning.specs.Serving.{Serves}
use Rattle.planner.specs.declared.call.Buffers.{Buffers}
use Rattle.planner.specs.declared.size.Size.{Size}
use Rattle.planner.specs.History.{width, span}
use Rattle.planner.specs.Outcome.{Few, FindsNone}

abbrev pub Unready : List Stop → ℕ → ℕ → ℕ → ℕ → Refusal → Type 0
Unready stops now labels predecessors output r =
    ((number r ≡ 6) × (stops ≡ []))
    ⊎ ((0 < length stops) × (((number r ≡ 7) × ((labels < 3) ⊎ (12288 < labels)))
    ⊎ ((3 ≤ labels) × (labels ≤ 12288) × (((number r ≡ 8) × (predecessors < width labels * span stops now))
    ⊎ ((width labels * span stops now ≤ predecessors) × (number r ≡ 9) × (output < span stops now))))))

pub record Ready (stops : List Stop) (now labels predecessors output : ℕ) : Type 0 where
  pub stop : 0 < length stops
  pub some : 3 ≤ labels
  pub most : labels ≤ 12288
  pub trail : width labels * span stops now ≤ predecessors
  pub room : span stops now ≤ output

-- the width and the span, or the refusal
abbrev pub Sized : List Stop → ℕ → Buffers → Result Size Refusal → Type 0
Sized stops now b (Ok size) =
    Ready stops now b.labels b.predecessors b.output × (size.width ≡ width b.labels) × (size.span ≡ span stops now)
Sized stops now b (Err why) = Unready stops now b.labels b.predecessors b.output why

pub record Schedule {R : Type 0} (names : R → ℕ → Duty → Option Violation) (after : R → ℕ → Duty → R) (better : R → R → Type 0) (stops : List Stop) (start : R) (now k : ℕ) (out : List ℕ) (e : ℕ) : Type 0 where
  pub letters : List Duty
  pub end : e ≡ now + length letters
  pub written : take (length letters) out ≡ map letter_of letters
  pub allowed : Allowed names after start now letters
  pub serves : Serves stops now letters
  pub least : (ls : List Duty) → Allowed names after start now ls → Serves stops now ls → e ≤ now + length ls
  pub few : (u : ℕ) → now + u < e → Few names after better stops start now k (now + u)

abbrev pub Solved : {R : Type 0} → (R → ℕ → Duty → Option Violation) → (R → ℕ → Duty → R) → (R → R → Type 0) → List Stop → R → ℕ → ℕ → ℕ → List ℕ → Result ℕ Refusal → Type 0
Solved names after better stops start now k len out (Ok e) = Schedule names after better stops start now k out e
Solved names after better stops start now k len out (Err why) = FindsNone names after better stops start now k len why

abbrev pub OutputLeft : ℕ → Result ℕ Refusal → List ℕ → List ℕ → Type 0
OutputLeft now (Ok e) before after = drop (e - now) after ≡ drop (e - now) before
OutputLeft now (Err why) before after = after ≡ before

abbrev pub Planned : {R : Type 0} → (R → ℕ → Duty → Option Violation) → (R → ℕ → Duty → R) → (R → R → Type 0) → List Stop → R → ℕ → ℕ → ℕ → List ℕ → Result ℕ Refusal → Type 0
Planned names after better stops start now labels predecessors out (Ok e) =
    Ready stops now labels predecessors (length out) × Schedule names after better stops start now (width labels) out e
Planned names after better stops start now labels predecessors out (Err why) =
    Unready stops now labels predecessors (length out) why
    ⊎ (Ready stops now labels predecessors (length out) × FindsNone names after better stops start now (width labels) (span stops now) why)

abbrev pub Left : {X : Type 0} → Result ℕ Refusal → List X → List X → List X → Type 0
Left (Ok e) before after cleared = after ≡ cleared
Left (Err why) before after cleared = (number why < 10 → after ≡ before) × (10 ≤ number why → after ≡ cleared)

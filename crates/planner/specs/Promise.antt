-- The promise: which answer fits a call, by the history alone, and a whole run of calls. Assumes nothing.
--   Answer                                  Err: the call was refused; Ok: it is done, and a plan gives its schedule
--   Needs .. h q n                          n is the number of labels needed at quarter q
--   Recording, Adding, Dropping, Planning   which answer fits the call, and the history after it
--   Exactly .. h k a                        11 exactly where too many labels are needed, and else 10 exactly where no letters complete the log
--   Kept .. h calls answers                 each answer fits its call in turn
use Rattle.std.specs.Prelude.{◌≡◌, ℕ, ◌+◌, ◌-◌, ◌<◌, ◌≤◌, ◌⊎◌, List, [], ◌∷◌, ◌++◌, map, length, take, replicate, Some, None, Ok, Err, vec_items, Option, Result}
use Rattle.duty.specs.declared.Duty.{Duty}
use Rattle.duty.specs.Duties.{letter_of, duty_of}
use Rattle.rules.specs.declared.breach.Breach.{Breach}
use Rattle.rules.specs.declared.breach.Violation.{Violation}
use Rattle.rules.specs.declared.refusal.Refusal.{Refusal}
use Rattle.rules.specs.declared.refusal.Refusal.TheVariants as why
use Rattle.rules.specs.Judged.{breach_at}
use Rattle.rules.specs.Refusals.{number}
use Rattle.rules.specs.Walk.{led}
use Rattle.planning.specs.declared.Stop.{Stop}
use Rattle.planning.specs.Labels.{Needed}
use Rattle.planner.specs.declared.call.Buffers.{Buffers}
use Rattle.planner.specs.declared.call.Call.{Call}
use Rattle.planner.specs.declared.call.Call.TheVariants.{Record, Add, Drop, Plan}
use Rattle.planner.specs.declared.call.Schedule.{Schedule}
use Rattle.planner.specs.History.{History, now_of, width, Completes, Counts}
use Rattle.planner.specs.Plans.{Unready, Ready}
use Rattle.planner.specs.Ranges.{InRange}

abbrev pub Answer : Type 0
Answer = Result (Option Schedule) Refusal

-- where a refusal leaves the history as it was
abbrev pub Refuses : History → History → ℕ → Refusal → Type 0
Refuses h h' n r = (h' ≡ h) × (number r ≡ n)

-- the answer is a refusal with this number
abbrev pub RefusedWith : ℕ → Answer → Type 0
RefusedWith n (Ok schedule) = ⊥
RefusedWith n (Err r) = number r ≡ n

module _ {R : Type 0} (names : R → ℕ → Duty → Option Violation) (after : R → ℕ → Duty → R) (better : R → R → Type 0) (opened : R) (lawful : List Duty → Type 0) where
  -- the state's row after the recorded log
  abbrev pub row_of : History → R
  row_of h = led after opened 0 h.log

  abbrev pub Needs : History → ℕ → ℕ → Type 0
  Needs h q n = Needed names after better h.stops (row_of h) (now_of h) q n

  -- the first n quarters of x can be recorded, one more cannot, and this breach is named there
  pub record FirstUnlawful (h : History) (x : Duty) (count : ℕ) (r : Refusal) : Type 0 where
    pub n : ℕ
    pub within : n < count
    pub before : lawful (h.log ++ replicate n x)
    pub broken : lawful (h.log ++ replicate (n + 1) x) → ⊥
    pub named : (b : Breach) × (breach_at (now_of h + n) (names (led after opened 0 (h.log ++ replicate n x)) (now_of h + n) x) ≡ Some b) × (r ≡ why.Breach b)

  -- record: the refusals in their order, or the log grows by the letters, all of them or none
  abbrev pub Recording : History → ℕ → ℕ → Answer → History → Type 0
  Recording h letter count (Ok None) h' =
      (x : Duty) × (duty_of letter ≡ Some x) × (0 < count) × (now_of h + count ≤ 2688) × lawful (h.log ++ replicate count x) × (h' ≡ record { log = h.log ++ replicate count x; stops = h.stops })
  Recording h letter count (Err r) h' =
      (Refuses h h' 1 r × (duty_of letter ≡ None))
      ⊎ ((x : Duty) × (duty_of letter ≡ Some x) × ((Refuses h h' 2 r × ((count ≡ 0) ⊎ (2688 < now_of h + count))) ⊎ (Refuses h h' 3 r × (0 < count) × (now_of h + count ≤ 2688) × FirstUnlawful h x count r)))
  Recording h letter count (Ok (Some schedule)) h' = ⊥

  -- add: the stop is put last
  abbrev pub Adding : History → Stop → Answer → History → Type 0
  Adding h stop (Ok None) h' = (length h.stops < 16) × InRange stop × (h' ≡ record { log = h.log; stops = h.stops ++ stop ∷ [] })
  Adding h stop (Err r) h' = (Refuses h h' 4 r × (length h.stops ≡ 16)) ⊎ (Refuses h h' 5 r × (length h.stops < 16) × (InRange stop → ⊥))
  Adding h stop (Ok (Some schedule)) h' = ⊥

  -- drop: the last stop is taken off
  abbrev pub Dropping : History → Answer → History → Type 0
  Dropping h (Ok None) h' = (0 < length h.stops) × (h' ≡ record { log = h.log; stops = take (length h.stops - 1) h.stops })
  Dropping h (Err r) h' = Refuses h h' 6 r × (h.stops ≡ [])
  Dropping h (Ok (Some schedule)) h' = ⊥

  -- the needed number is over the width at a quarter that counts
  abbrev pub Crowded : History → ℕ → Type 0
  Crowded h k = (q : ℕ) × Counts lawful h q × ((n : ℕ) × Needs h q n × (k < n))

  abbrev pub Infeasible : History → Type 0
  Infeasible h = (ls : List Duty) (e : ℕ) → Completes lawful h ls e → ⊥

  -- a plan taken: the letters complete the log, and no others end earlier
  pub record PlannedEnd (h : History) (e : ℕ) (bytes : List ℕ) : Type 0 where
    pub letters : List Duty
    pub spelling : bytes ≡ map letter_of letters
    pub completes : Completes lawful h letters e
    pub least : (ls : List Duty) (e' : ℕ) → Completes lawful h ls e' → e ≤ e'

  -- what is promised of 10 and 11 where 6 to 9 do not apply
  pub record Exactly (h : History) (k : ℕ) (a : Answer) : Type 0 where
    -- 11 exactly where too many labels are needed at a quarter that counts
    pub eleven : (RefusedWith 11 a → Crowded h k) × (Crowded h k → RefusedWith 11 a)
    -- where it is not 11, 10 exactly where no letters complete the log
    pub ten : (RefusedWith 11 a → ⊥) → (RefusedWith 10 a → Infeasible h) × (Infeasible h → RefusedWith 10 a)

  -- plan: the first of 6 to 9 that applies; else an end, 10 or 11
  abbrev pub Planning : History → Buffers → Answer → History → Type 0
  Planning h b (Ok None) h' = ⊥
  Planning h b (Err r) h' =
      (h' ≡ h) × (Unready h.stops (now_of h) b.labels b.predecessors b.output r
      ⊎ (Ready h.stops (now_of h) b.labels b.predecessors b.output × ((number r ≡ 10) ⊎ (number r ≡ 11)) × Exactly h (width b.labels) (Err r)))
  Planning h b (Ok (Some schedule)) h' =
      (h' ≡ h) × Ready h.stops (now_of h) b.labels b.predecessors b.output × PlannedEnd h schedule.end (vec_items schedule.letters) × Exactly h (width b.labels) (Ok (Some schedule))

  abbrev pub Answers : History → Call → Answer → History → Type 0
  Answers h (Record letter count) a h' = Recording h letter count a h'
  Answers h (Add stop) a h' = Adding h stop a h'
  Answers h Drop a h' = Dropping h a h'
  Answers h (Plan b) a h' = Planning h b a h'

  abbrev pub Kept : History → List Call → List Answer → Type 0
  Kept h [] [] = Unit {0}
  Kept h [] (a ∷ answers) = ⊥
  Kept h (c ∷ calls) [] = ⊥
  Kept h (c ∷ calls) (a ∷ answers) = (h' : History) × Answers h c a h' × Kept h' calls answers

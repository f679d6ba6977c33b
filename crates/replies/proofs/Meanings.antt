-- Two meanings of lawful that agree on every log: what is promised under one is promised under the other.
use Rattle.std.proofs.Common.{ℕ, List, [], ◌∷◌, ◌++◌, vec_items, Some, None, Ok, Err, Option, inl, inr}
use Rattle.duty.specs.declared.Duty.{Duty}
use Rattle.rules.specs.declared.breach.Violation.{Violation}
use Rattle.rules.specs.declared.refusal.Refusal.{Refusal}
use Rattle.planner.specs.declared.call.Buffers.{Buffers}
use Rattle.planner.specs.declared.call.Call.{Call}
use Rattle.planner.specs.declared.call.Call.TheVariants.{Record, Add, Drop, Plan}
use Rattle.planner.specs.History.{History, Completes, Counts}
use Rattle.planner.specs.Promise.{Answer, FirstUnlawful, Recording, Crowded, PlannedEnd, Exactly, Planning, Answers, Kept}

-- every log that is lawful in the first sense is lawful in the second
abbrev Within : (List Duty → Type 0) → (List Duty → Type 0) → Type 0
Within A B = (l : List Duty) → A l → B l

completes : (A B : List Duty → Type 0) → Within A B → (h : History) (ls : List Duty) (e : ℕ) → Completes A h ls e → Completes B h ls e
completes A B to h ls e c = record { lawfully = to (h.log ++ ls) c.lawfully; serving = c.serving; end = c.end }

counts : (A B : List Duty → Type 0) → Within B A → (h : History) (q : ℕ) → Counts A h q → Counts B h q
counts A B from h q c = record { begun = c.begun; within = c.within; unended = λ ls e k. c.unended ls e (completes B A from h ls e k) }

module _ {R : Type 0} (names : R → ℕ → Duty → Option Violation) (after : R → ℕ → Duty → R) (better : R → R → Type 0) (opened : R) where
  crowded : (A B : List Duty → Type 0) → Within B A → (h : History) (k : ℕ) → Crowded names after better opened A h k → Crowded names after better opened B h k
  crowded A B from h k c = (c.0, counts A B from h c.0 c.1, c.2)

  module _ (A B : List Duty → Type 0) (to : Within A B) (from : Within B A) where
    exactly : (h : History) (k : ℕ) (a : Answer) → Exactly names after better opened A h k a → Exactly names after better opened B h k a
    exactly h k a x = record {
      eleven = (λ r. crowded A B from h k (x.eleven.0 r), λ c. x.eleven.1 (crowded B A to h k c));
      ten = λ not-eleven. (
        λ r ls e c. (x.ten not-eleven).0 r ls e (completes B A from h ls e c),
        λ none. (x.ten not-eleven).1 (λ ls e c. none ls e (completes A B to h ls e c)),
      );
    }

    planned_end : (h : History) (e : ℕ) (bytes : List ℕ) → PlannedEnd names after better opened A h e bytes → PlannedEnd names after better opened B h e bytes
    planned_end h e bytes p = record {
      letters = p.letters;
      spelling = p.spelling;
      completes = completes A B to h p.letters e p.completes;
      least = λ ls e' c. p.least ls e' (completes B A from h ls e' c);
    }

    first_unlawful : (h : History) (x : Duty) (count : ℕ) (r : Refusal) → FirstUnlawful names after better opened A h x count r → FirstUnlawful names after better opened B h x count r
    first_unlawful h x count r f =
        record { n = f.n; within = f.within; before = to _ f.before; broken = λ l. f.broken (from _ l); named = f.named }

    recording : (h : History) (letter count : ℕ) (a : Answer) (h' : History) → Recording names after better opened A h letter count a h' → Recording names after better opened B h letter count a h'
    recording h letter count (Ok None) h' (x, spelt, some, fits, lawfully, next) = (x, spelt, some, fits, to _ lawfully, next)
    recording h letter count (Err r) h' (inl one) = inl one
    recording h letter count (Err r) h' (inr (x, spelt, inl two)) = inr (x, spelt, inl two)
    recording h letter count (Err r) h' (inr (x, spelt, inr (refused, some, fits, first))) = inr (x, spelt, inr (refused, some, fits, first_unlawful h x count r first))
    recording h letter count (Ok (Some s)) h' k = k

    planning : (h : History) (b : Buffers) (a : Answer) (h' : History) → Planning names after better opened A h b a h' → Planning names after better opened B h b a h'
    planning h b (Ok None) h' k = k
    planning h b (Err r) h' (same, inl unready) = (same, inl unready)
    planning h b (Err r) h' (same, inr (ready, number, x)) = (same, inr (ready, number, exactly h _ (Err r) x))
    planning h b (Ok (Some s)) h' (same, ready, p, x) = (same, ready, planned_end h s.end (vec_items s.letters) p, exactly h _ (Ok (Some s)) x)

    answers_so : (h : History) (call : Call) (a : Answer) (h' : History) → Answers names after better opened A h call a h' → Answers names after better opened B h call a h'
    answers_so h (Record letter count) a h' k = recording h letter count a h' k
    answers_so h (Add stop) a h' k = k
    answers_so h Drop a h' k = k
    answers_so h (Plan b) a h' k = planning h b a h' k

    pub kept_so : (h : History) (calls : List Call) (answers : List Answer) → Kept names after better opened A h calls answers → Kept names after better opened B h calls answers
    kept_so h [] [] k = k
    kept_so h [] (a ∷ answers) k = k
    kept_so h (c ∷ calls) [] k = k
    kept_so h (c ∷ calls) (a ∷ answers) (h', fits, k) = (h', answers_so h c a h' fits, kept_so h' calls answers k)

-- What a search has shown, in the words of the promise.
use Rattle.std.proofs.Common.{◌≡◌, ℕ, ◌+◌, ◌-◌, ◌<◌, ◌≤◌, List, ◌++◌, length, take, Option, sym, refl, ap, ◌∙◌, subst, ⊎_elim, zero-add, arith}
use Rattle.std.proofs.lemmas.List.{length-append}
use Rattle.std.proofs.lemmas.Bool.{cases_lt}
use Rattle.duty.specs.declared.Duty.{Duty}
use Rattle.rules.specs.declared.breach.Violation.{Violation}
use Rattle.rules.specs.Walk.{led, Allowed}
use Rattle.rules.proofs.Walk.{allowed-append, allowed_rest}
use Rattle.planning.specs.Labels.{Needed}
use Rattle.planning.specs.Serving.{Serves}
use Rattle.planning.proofs.Stretches.{serve_bound}
use Rattle.planner.specs.History.{History, now_of, last_stop, span, Completes}
use Rattle.planner.specs.Outcome.{Unended, Few, NoneEnds, Crowds}
use Rattle.planner.specs.Plans.{Schedule}
use Rattle.planner.specs.Promise.{row_of, Crowded, Infeasible, PlannedEnd}

module _ {R : Type 0} (names : R → ℕ → Duty → Option Violation) (after : R → ℕ → Duty → R) (better : R → R → Type 0) (opened : R) (lawful : List Duty → Type 0) (judged : (l : List Duty) → length l ≤ 2688 → (lawful l → Allowed names after opened 0 l) × (Allowed names after opened 0 l → lawful l)) (h : History) (recorded : Allowed names after opened 0 h.log) (some : 0 < length h.stops) (fits : (last_stop h.stops).closes + (last_stop h.stops).service ≤ 2688) (k : ℕ) where
  completes-allowed : (ls : List Duty) (e : ℕ) → Completes lawful h ls e → Allowed names after (row_of names after better opened lawful h) (now_of h) ls
  completes-allowed ls e c =
      let bound = serve_bound h.stops (now_of h) ls some c.serving in
      let short : length (h.log ++ ls) ≤ 2688 = omega (arith, length-append h.log ls) in
      subst (λ n. Allowed names after (led after opened 0 h.log) n ls) (zero-add (now_of h)) (allowed_rest names after h.log ls opened 0 ((judged (h.log ++ ls) short).0 c.lawfully))

  serves-completes : (ls : List Duty) → Allowed names after (row_of names after better opened lawful h) (now_of h) ls → Serves h.stops (now_of h) ls → Completes lawful h ls (now_of h + length ls)
  serves-completes ls a s =
      let bound = serve_bound h.stops (now_of h) ls some s in
      let short : length (h.log ++ ls) ≤ 2688 = omega (arith, length-append h.log ls) in
      record {
        lawfully = (judged (h.log ++ ls) short).1 (allowed-append names after h.log ls opened 0 recorded (subst (λ n. Allowed names after (led after opened 0 h.log) n ls) (sym (zero-add (now_of h))) a));
        serving = s;
        end = refl;
      }

  -- what has not ended by q ends after it
  ends_later : (q : ℕ) → Unended names after h.stops (row_of names after better opened lawful h) (now_of h) q → (ls : List Duty) (e : ℕ) → Completes lawful h ls e → q < e
  ends_later q u ls e c = ⊎_elim (λ lt. lt) (λ le. absurd (u ls (completes-allowed ls e c) c.serving (omega (arith, c.end)))) (cases_lt q e)

  -- few labels at a quarter are not many
  few_not : (q : ℕ) → Few names after better h.stops (row_of names after better opened lawful h) (now_of h) k q → (n : ℕ) → Needed names after better h.stops (row_of names after better opened lawful h) (now_of h) q n → k < n → ⊥
  few_not q f n needed more = omega (arith, f.2, needed.least f.1.labels f.1.cover, f.1.size)

  pub crowds-crowded : Crowds names after better h.stops (row_of names after better opened lawful h) (now_of h) k (span h.stops (now_of h)) → Crowded names after better opened lawful h k
  crowds-crowded c = (
    now_of h + c.at,
    record { begun = omega arith; within = omega (arith, c.within); unended = ends_later (now_of h + c.at) c.unended },
    (c.number, c.needed, c.more),
  )

  pub none-infeasible : NoneEnds names after better h.stops (row_of names after better opened lawful h) (now_of h) k (span h.stops (now_of h)) → Infeasible names after better opened lawful h × (Crowded names after better opened lawful h k → ⊥)
  none-infeasible n = (
    (λ ls e c. n.none ls (completes-allowed ls e c) c.serving (omega (arith, serve_bound h.stops (now_of h) ls some c.serving))),
    (λ c.
        let u : ℕ = c.0 - now_of h in
        let at : now_of h + u ≡ c.0 = omega (arith, c.1.begun) in
        few_not c.0 (subst (Few names after better h.stops (row_of names after better opened lawful h) (now_of h) k) at (n.few u (omega (arith, c.1.within, c.1.begun)))) c.2.0 c.2.1 c.2.2),
  )

  pub schedule-planned : (out : List ℕ) (e : ℕ) → Schedule names after better h.stops (row_of names after better opened lawful h) (now_of h) k out e → (bytes : List ℕ) → bytes ≡ take (e - now_of h) out → PlannedEnd names after better opened lawful h e bytes × (Crowded names after better opened lawful h k → ⊥)
  schedule-planned out e s bytes spelling =
      let size : e - now_of h ≡ length s.letters = omega (arith, s.end) in
      let done : Completes lawful h s.letters e = subst (Completes lawful h s.letters) (sym s.end) (serves-completes s.letters s.allowed s.serves) in (
        record {
          letters = s.letters;
          spelling = spelling ∙ ap (λ n. take n out) size ∙ s.written;
          completes = done;
          least = λ ls e' c. subst (λ n. e ≤ n) (sym c.end) (s.least ls (completes-allowed ls e' c) c.serving);
        },
        (λ c.
            let before = c.1.unended s.letters e done in
            let u : ℕ = c.0 - now_of h in
            let at : now_of h + u ≡ c.0 = omega (arith, c.1.begun) in
            few_not c.0 (subst (Few names after better h.stops (row_of names after better opened lawful h) (now_of h) k) at (s.few u (omega (arith, before)))) c.2.0 c.2.1 c.2.2),
      )

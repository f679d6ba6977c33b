-- Each call leaves a card and a tour that stand for the history after it.
use Rattle.std.proofs.Common.{◌≡◌, ℕ, ◌+◌, ◌-◌, ◌<◌, ◌≤◌, true, List, [], ◌∷◌, ◌++◌, length, take, replicate, is_some, Some, None, Ok, Err, Option, Result, sym, refl, ap, ◌∙◌, subst, inl, inr, ⊎_elim, zero-add, arith}
use Rattle.std.proofs.lemmas.List.{length-append, length-replicate, replicate_more, take_at, length_push}
use Rattle.std.proofs.lemmas.Bool.{false≢true}
use Rattle.duty.specs.declared.Duty.{Duty}
use Rattle.duty.specs.Duties.{duty_of}
use Rattle.rules.specs.declared.breach.Breach.{Breach}
use Rattle.rules.specs.declared.breach.Violation.{Violation}
use Rattle.rules.specs.declared.refusal.Refusal.{Refusal}
use Rattle.rules.specs.Judged.{breach_at}
use Rattle.rules.specs.Refusals.{number}
use Rattle.rules.specs.Walk.{led, Allowed}
use Rattle.rules.specs.LayersLemmas.{some-none}
use Rattle.rules.proofs.Walk.{led-append, allowed-append, allowed_rest, allowed-last}
use Rattle.planning.specs.declared.Stop.{Stop}
use Rattle.planner.specs.declared.call.Call.TheVariants.{Record, Add, Drop}
use Rattle.planner.specs.History.{History, now_of}
use Rattle.planner.specs.Promise.{Answers, FirstUnlawful}
use Rattle.planner.specs.Recorded.{Recorded, RefusedRecord, Added, Stopped}
use Rattle.planner.specs.Standing.{StandsFor, answer_of}
use Rattle.planner.specs.Toured.{PutLast, TakenOff}

some_of : {X : Type 0} (o : Option X) → is_some o ≡ true → (x : X) × (o ≡ Some x)
some_of None e = absurd (false≢true e)
some_of (Some x) e = (x, refl)

module _ {R : Type 0} (names : R → ℕ → Duty → Option Violation) (after : R → ℕ → Duty → R) (better : R → R → Type 0) (opened : R) (lawful : List Duty → Type 0) (judged : (l : List Duty) → length l ≤ 2688 → (lawful l → Allowed names after opened 0 l) × (Allowed names after opened 0 l → lawful l)) where
  module _ (row : R) (now : ℕ) (stops : List Stop) (h : History) (stands : StandsFor names after opened row now stops h) where
    -- letters from the card on are letters after the log
    led_on : (ls : List Duty) → led after row now ls ≡ led after opened 0 (h.log ++ ls)
    led_on ls =
        ap (λ s. led after s now ls) stands.state ∙ ap (λ n. led after (led after opened 0 h.log) n ls) (stands.at ∙ sym (zero-add (length h.log))) ∙ sym (led-append names after h.log ls opened 0)

    allowed_on : (ls : List Duty) → Allowed names after row now ls → Allowed names after opened 0 (h.log ++ ls)
    allowed_on ls a =
        allowed-append names after h.log ls opened 0 stands.recorded
        (subst (λ n. Allowed names after (led after opened 0 h.log) n ls) (stands.at ∙ sym (zero-add (length h.log))) (subst (λ s. Allowed names after s now ls) stands.state a))

    on_allowed : (ls : List Duty) → Allowed names after opened 0 (h.log ++ ls) → Allowed names after row now ls
    on_allowed ls a =
        subst (λ s. Allowed names after s now ls) (sym stands.state)
        (subst (λ n. Allowed names after (led after opened 0 h.log) n ls) (zero-add (length h.log) ∙ sym stands.at) (allowed_rest names after h.log ls opened 0 a))

    short : (n : ℕ) (x : Duty) → now + n ≤ 2688 → length (h.log ++ replicate n x) ≤ 2688
    short n x fits = omega (arith, length-append h.log (replicate n x), length-replicate n x, stands.at)

    recorded_on : (letter count : ℕ) (row' : R) (now' : ℕ) → Added names after row now letter count row' now' → (h' : History) × Answers names after better opened lawful h (Record letter count) (answer_of (Ok tt)) h' × StandsFor names after opened row' now' stops h'
    recorded_on letter count row' now' a =
        let ls : List Duty = replicate count a.status in (
          record { log = h.log ++ ls; stops = h.stops },
          (a.status, a.spelt, a.fitting.0, omega (arith, stands.at, a.fitting.1), (judged (h.log ++ ls) (short count a.status a.fitting.1)).1 (allowed_on ls a.allowed), refl),
          record {
            state = a.state ∙ led_on ls;
            recorded = allowed_on ls a.allowed;
            at = omega (arith, a.later, stands.at, length-append h.log ls, length-replicate count a.status);
            tour = stands.tour;
          },
        )

    unlawful : (letter count : ℕ) (why : Refusal) (s : Stopped names after row now letter count why) → FirstUnlawful names after better opened lawful h s.status count why
    unlawful letter count why s =
        let b : Breach = s.breach in
        let x : Duty = s.status in
        let n : ℕ = b.quarter - now in
        let quarter : b.quarter ≡ now_of h + n = omega (arith, s.first.begun, stands.at) in
        let here : breach_at (now_of h + n) (names (led after opened 0 (h.log ++ replicate n x)) (now_of h + n) x) ≡ Some b =
        subst (λ q. breach_at q (names (led after opened 0 (h.log ++ replicate n x)) q x) ≡ Some b) quarter
        (ap (λ t. breach_at b.quarter (names t b.quarter x)) (sym (led_on (replicate n x))) ∙ s.first.named) in
        record {
          n = n;
          within = s.first.within;
          before = (judged (h.log ++ replicate n x) (short n x (omega (arith, s.first.within, s.fitting.1)))).1 (allowed_on (replicate n x) s.first.allowed);
          broken = λ l.
              let more : replicate (n + 1) x ≡ replicate n x ++ x ∷ [] = sym (replicate_more n x) in
              let allowed = on_allowed (replicate (n + 1) x) ((judged (h.log ++ replicate (n + 1) x) (short (n + 1) x (omega (arith, s.first.within, s.fitting.1)))).0 l) in
              let none = allowed-last names after (replicate n x) row now x (subst (Allowed names after row now) more allowed) in
              let there : now + length (replicate n x) ≡ b.quarter = omega (arith, length-replicate n x, s.first.begun) in
              some-none b (sym s.first.named ∙ ap (breach_at b.quarter) (subst (λ q. names (led after row now (replicate n x)) q x ≡ None) there none));
          named = (b, here, s.answer);
        }

    same : (row' : R) (now' : ℕ) → row' ≡ row → now' ≡ now → StandsFor names after opened row' now' stops h
    same row' now' e e' = record { state = e ∙ stands.state; recorded = stands.recorded; at = e' ∙ stands.at; tour = stands.tour }

    pub standing_record : (letter count : ℕ) (row' : R) (now' : ℕ) (r : Result (Unit {0}) Refusal) → Recorded names after row now letter count row' now' r → (h' : History) × Answers names after better opened lawful h (Record letter count) (answer_of r) h' × StandsFor names after opened row' now' stops h'
    standing_record letter count row' now' (Ok u) a = recorded_on letter count row' now' a
    standing_record letter count row' now' (Err why) a = (h, refused a.2, same row' now' a.0 a.1)
      where
        later : (2688 < now + count) → 2688 < now_of h + count
        later lt = omega (arith, stands.at)

        refused : RefusedRecord names after row now letter count why → Answers names after better opened lawful h (Record letter count) (answer_of (Err why)) h
        refused (inl one) = inl ((refl, one.0), one.1)
        refused (inr (inl two)) =
            let x = some_of (duty_of letter) two.1 in
            inr (x.0, x.1, inl ((refl, two.0), ⊎_elim inl (λ lt. inr (later lt)) two.2))
        refused (inr (inr s)) =
            inr (s.status, s.spelt, inr ((refl, ap number s.answer), s.fitting.0, omega (arith, stands.at, s.fitting.1), unlawful letter count why s))

    pub standing_add : (stop : Stop) (stops' : List Stop) (r : Result (Unit {0}) Refusal) → PutLast stops stop stops' r → (h' : History) × Answers names after better opened lawful h (Add stop) (answer_of r) h' × StandsFor names after opened row now stops' h'
    standing_add stop stops' (Ok u) a =
        let many : length stops ≡ length h.stops = ap length stands.tour in (
          record { log = h.log; stops = h.stops ++ stop ∷ [] },
          (omega (arith, a.0), a.1, refl),
          record { state = stands.state; recorded = stands.recorded; at = stands.at; tour = a.2 ∙ ap (λ s. s ++ stop ∷ []) stands.tour },
        )
    standing_add stop stops' (Err why) a =
        let many : length stops ≡ length h.stops = ap length stands.tour in (
          h,
          ⊎_elim (λ four. inl ((refl, four.0), omega (arith, four.1))) (λ five. inr ((refl, five.0), omega (arith, five.1), five.2)) a.1,
          record { state = stands.state; recorded = stands.recorded; at = stands.at; tour = a.0 ∙ stands.tour },
        )

    pub standing_drop : (stops' : List Stop) (r : Result (Unit {0}) Refusal) → TakenOff stops stops' r → (h' : History) × Answers names after better opened lawful h Drop (answer_of r) h' × StandsFor names after opened row now stops' h'
    standing_drop stops' (Ok u) a =
        let whole : h.stops ≡ stops' ++ a.0 ∷ [] = sym stands.tour ∙ a.1 in
        let many : length h.stops ≡ length stops' + 1 = ap length whole ∙ length_push stops' a.0 in
        let fewer : length stops' ≡ length h.stops - 1 = omega arith in (
          record { log = h.log; stops = take (length h.stops - 1) h.stops },
          (omega arith, refl),
          record {
            state = stands.state;
            recorded = stands.recorded;
            at = stands.at;
            tour = sym (ap (take (length h.stops - 1)) whole ∙ take_at stops' (a.0 ∷ []) (length h.stops - 1) fewer);
          },
        )
    standing_drop stops' (Err why) a = (
      h,
      ((refl, a.0), sym stands.tour ∙ a.1),
      record { state = stands.state; recorded = stands.recorded; at = stands.at; tour = a.2 ∙ sym a.1 ∙ stands.tour },
    )

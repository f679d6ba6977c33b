-- The labels of no letters, and what every reached label keeps, over stops that each have a service.
--   Sensible stops a            a's stop is one of the tour's, some service is left and no more than the stop's, and once the service has
--                               begun all the driving is done
--   start_reached, start_only   no letters lead to the label at the tour's beginning, and to that alone but for `from`
use Rattle.std.proofs.Common.{◌≡◌, ℕ, ◌+◌, ◌-◌, ◌<◌, ◌≤◌, List, [], ◌++◌, length, take, Option, refl, ap, ◌∙◌, subst, inl, inr, arith}
use Rattle.std.proofs.lemmas.List.{length-append, length-replicate, nil_from_length}
use Rattle.std.proofs.lemmas.Bool.{cases_eq}
use Rattle.duty.specs.declared.Duty.{Duty}
use Rattle.rules.specs.declared.breach.Violation.{Violation}
use Rattle.planning.specs.declared.Label.{Label}
use Rattle.planning.specs.declared.Stop.{Stop}
use Rattle.planning.specs.Serving.{Serves}
use Rattle.planning.specs.Labels.{stop_at, Begun, Reached}
use Rattle.planning.specs.Moves.{label_at}
use Rattle.planning.proofs.Stretches.{serves_pop}
use Rattle.planning.proofs.Parts as parts

pub record Sensible {R : Type 0} (stops : List Stop) (a : Label R) : Type 0 where
  pub current : a.stop < length stops
  pub some : 0 < a.service
  pub most : a.service ≤ (stop_at stops a.stop).service
  pub begun-driven : Begun stops a → a.drive ≡ 0

module _ {R : Type 0} (names : R → ℕ → Duty → Option Violation) (after : R → ℕ → Duty → R) (stops : List Stop) (start : R) (now : ℕ) (serviced : (i : ℕ) → i < length stops → 0 < (stop_at stops i).service) where
  pub start_reached : (f : ℕ) → 0 < length stops → Reached names after stops start now [] (label_at stops 0 f start)
  start_reached f some =
      record {
        served = [];
        part = [];
        whole = refl;
        allowed = tt;
        state = refl;
        current = some;
        before = refl;
        partway = inl (record { travelling = refl; driven = omega arith; unserved = refl });
      }

  -- letters that serve some first stops are not empty
  pub serves-some : (i q : ℕ) (ls : List Duty) → i < length stops → Serves (take (i + 1) stops) q ls → 0 < length ls
  serves-some i q ls lt h =
      let (served, travel, e, k, s) = serves_pop stops i q ls lt h in
      let some = serviced i lt in
      let z = simp (length-append, length-replicate) at (ap length e) in
      omega arith

  -- so where no letters serve the first stops, there are none
  serves-none : (i q : ℕ) → i < length stops → Serves (take i stops) q [] → i ≡ 0
  serves-none i q lt h =
      elim (cases_eq i 0) [
        | inl e ↦ e
        | inr n ↦
            let one : i ≡ i - 1 + 1 = omega arith in
            let some = serves-some (i - 1) q [] (omega arith) (subst (λ j. Serves (take j stops) q []) one h) in
            absurd (omega arith)
      ]

  pub start_only : (a : Label R) → Reached names after stops start now [] a → (a.stop ≡ 0) × (a.drive ≡ (stop_at stops 0).drive) × (a.service ≡ (stop_at stops 0).service) × (a.row ≡ start)
  start_only a h =
      let z = simp length-append at (ap length h.whole) in
      let none = nil_from_length h.served (omega arith) in
      let first = serves-none a.stop now h.current (subst (λ l. Serves (take a.stop stops) now l) none h.before) in
      let (d, w) = parts.start_part (stop_at stops a.stop) (now + length h.served) h.part a.drive a.service (omega arith) h.partway in
      (first, d ∙ ap (λ i. (stop_at stops i).drive) first, w ∙ ap (λ i. (stop_at stops i).service) first, h.state)

  pub reached-sensible : (ls : List Duty) (a : Label R) → Reached names after stops start now ls a → Sensible stops a
  reached-sensible ls a h =
      let stop = stop_at stops a.stop in
      let p = now + length h.served in
      record {
        current = h.current;
        some = parts.partway-some stop p h.part a.drive a.service (serviced a.stop h.current) h.partway;
        most = parts.partway_most stop p h.part a.drive a.service h.partway;
        begun-driven = parts.partway-driven stop p h.part a.drive a.service h.partway;
      }

  -- the quarter after the letters, counted from the current stop's first
  pub there : (ls served part : List Duty) → ls ≡ served ++ part → now + length ls ≡ now + length served + length part
  there ls served part e = let z = simp length-append at (ap length e) in omega arith

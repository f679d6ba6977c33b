-- The label before the last status of letters that reach one, and the one before the last work of a tour.
--   split                a label reached by letters is led to by a move from one that those before the last reach
--   finished             letters that serve a tour end in work, which serves it from a label that those before it reach
use Rattle.std.proofs.Common.{◌≡◌, ℕ, suc, ◌+◌, ◌-◌, ◌<◌, true, List, [], ◌∷◌, ◌++◌, length, take, replicate, Some, None, Option, sym, refl, ap, ◌∙◌, subst, inl, inr, arith}
use Rattle.std.proofs.lemmas.List.{append-nil}
use Rattle.std.proofs.lemmas.Bool.{cases_eq}
use Rattle.duty.specs.declared.Duty.{Duty}
use Rattle.duty.specs.declared.Duty.TheVariants.{Rest, Work, Drive}
use Rattle.rules.specs.declared.breach.Violation.{Violation}
use Rattle.rules.specs.Walk.{led, Allowed}
use Rattle.rules.proofs.Walk.{led-push, allowed-front, allowed-last}
use Rattle.planning.specs.declared.Label.{Label}
use Rattle.planning.specs.declared.Stop.{Stop}
use Rattle.planning.specs.Serving.{InWindow, Serves}
use Rattle.planning.specs.Labels.{stop_at, Partway, Reached}
use Rattle.planning.specs.Moves.{ready, label_at, lead, move, serves_all}
use Rattle.planning.proofs.Tallies.{works_push, ends, push-append, push_not_nil}
use Rattle.planning.proofs.Stretches.{serves_pop, serves-last}
use Rattle.planning.proofs.Starts.{serves-some, there}
use Rattle.planning.proofs.Parts as parts
use Rattle.planning.proofs.Leads as leads

module _ {R : Type 0} (names : R → ℕ → Duty → Option Violation) (after : R → ℕ → Duty → R) (stops : List Stop) (start : R) (now : ℕ) (serviced : (i : ℕ) → i < length stops → 0 < (stop_at stops i).service) where
  -- the label before a status
  abbrev earlier : List Duty → ℕ → ℕ → ℕ → Label R
  earlier ls i d w = record { stop = i; drive = d; service = w; from = 0; row = led after start now ls }

  module _ (ls : List Duty) (x : Duty) (allowed : Allowed names after start now (ls ++ x ∷ [])) where
    less_none : names (led after start now ls) (now + length ls) x ≡ None
    less_none = allowed-last names after ls start now x allowed

    less_reached : (served part : List Duty) (i d w : ℕ) → ls ≡ served ++ part → i < length stops → Serves (take i stops) now served → Partway (stop_at stops i) (now + length served) part d w → Reached names after stops start now ls (earlier ls i d w)
    less_reached served part i d w e lt s k =
        record {
          served = served;
          part = part;
          whole = e;
          allowed = allowed-front names after ls start now x allowed;
          state = refl;
          current = lt;
          before = s;
          partway = k;
        }

    less_ready : (served part : List Duty) (i w : ℕ) → ls ≡ served ++ part → parts.Startable (stop_at stops i) (now + length served) part w → ready stops (now + length ls) (earlier ls i 0 w) ≡ true
    less_ready served part i w e s =
        leads.ready_from stops (now + length ls) (earlier ls i 0 w) (
          refl,
          elim s [
            | inl begun ↦ inl begun
            | inr window ↦ inr (subst (λ q. InWindow (stop_at stops i) q) (sym (there names after stops start now serviced ls served part e)) window)
          ],
        )

    -- before the last work of a service
    uncompletes : (i : ℕ) → i < length stops → Serves (take (i + 1) stops) now (ls ++ x ∷ []) → (x ≡ Work) × Reached names after stops start now ls (earlier ls i 0 1) × (ready stops (now + length ls) (earlier ls i 0 1) ≡ true)
    uncompletes i lt h =
        let (served, travel, e, k, s) = serves_pop stops i now (ls ++ x ∷ []) lt h in
        let stop = stop_at stops i in
        let some = serviced i lt in
        let one : stop.service ≡ suc (stop.service - 1) = omega arith in
        let last = ap (λ n. travel ++ replicate n Work) one ∙ works_push travel (stop.service - 1) in
        let (front, work) = push-append ls served (travel ++ replicate (stop.service - 1) Work) x Work (e ∙ ap (λ l. served ++ l) last) in
        let (part, ready-part) = parts.unworked stop (now + length served) travel (stop.service - 1) 1 s (omega arith) (omega arith) in (
          work,
          less_reached served (travel ++ replicate (stop.service - 1) Work) i 0 1 front lt k part,
          less_ready served (travel ++ replicate (stop.service - 1) Work) i 1 front ready-part,
        )

  abbrev Before : List Duty → Label R → Duty → Type 0
  Before ls b x = (a : Label R) × Reached names after stops start now ls a × (move names after stops (now + length ls) b.from a x ≡ Some b)

  module _ (ls : List Duty) (b : Label R) (x : Duty) (h : Reached names after stops start now (ls ++ x ∷ []) b) where
    row_after : after (led after start now ls) (now + length ls) x ≡ b.row
    row_after = sym (h.state ∙ led-push names after ls start now x)

    moves : (i d w : ℕ) → lead stops (now + length ls) b.from (earlier ls i d w) (after (led after start now ls) (now + length ls) x) x ≡ Some b → move names after stops (now + length ls) b.from (earlier ls i d w) x ≡ Some b
    moves i d w e = leads.move-made names after stops (now + length ls) b.from (earlier ls i d w) b x (less_none ls x h.allowed) e

  -- the part ends in x
  within : (ls : List Duty) (b : Label R) (x : Duty) (h : Reached names after stops start now (ls ++ x ∷ []) b) (front : List Duty) → ls ≡ h.served ++ front → Partway (stop_at stops b.stop) (now + length h.served) (front ++ x ∷ []) b.drive b.service → Before ls b x
  within ls b Rest h front e k =
      let q = now + length ls in
      let stop = stop_at stops b.stop in
      let p = now + length h.served in
      let u = parts.rest_off stop p front b.drive b.service (parts.rest_parted stop p front b.drive b.service k) in
      let a = earlier ls b.stop b.drive b.service in
      let row = after (led after start now ls) q Rest in (
        a,
        less_reached ls Rest h.allowed h.served front b.stop b.drive b.service e h.current h.before (inl u),
        moves ls b Rest h b.stop b.drive b.service (leads.rest_leads stops q b.from a row b (λ lt. omega arith) (leads.label_same (leads.rested b.from a row) b refl refl refl refl (row_after ls b Rest h))),
      )
  within ls b Drive h front e k =
      let q = now + length ls in
      let stop = stop_at stops b.stop in
      let p = now + length h.served in
      let u = parts.drive_off stop p front b.drive b.service (parts.drive_parted stop p front b.drive b.service k) in
      let a = earlier ls b.stop (b.drive + 1) b.service in
      let row = after (led after start now ls) q Drive in (
        a,
        less_reached ls Drive h.allowed h.served front b.stop (b.drive + 1) b.service e h.current h.before (inl u),
        moves ls b Drive h b.stop (b.drive + 1) b.service (leads.drive_leads stops q b.from a row b (λ lt. omega arith) (omega arith) (leads.label_same (leads.driven b.from a row) b refl (omega arith) refl refl (row_after ls b Drive h))),
      )
  within ls b Work h front e k =
      let q = now + length ls in
      let stop = stop_at stops b.stop in
      let p = now + length h.served in
      let (driven, some, part, s) = parts.work_off stop p front b.drive b.service k in
      let a = earlier ls b.stop 0 (b.service + 1) in
      let row = after (led after start now ls) q Work in
      let r = less_ready ls Work h.allowed h.served front b.stop (b.service + 1) e s in (
        a,
        less_reached ls Work h.allowed h.served front b.stop 0 (b.service + 1) e h.current h.before part,
        moves ls b Work h b.stop 0 (b.service + 1) (leads.work_leads stops q b.from a row b r (omega arith) (leads.label_same (leads.worked b.from a row) b refl (sym driven) (omega arith) refl (row_after ls b Work h))),
      )

  -- the part is empty: the status is the last work of the stop before
  between : (ls : List Duty) (b : Label R) (x : Duty) (h : Reached names after stops start now (ls ++ x ∷ []) b) → h.part ≡ [] → Before ls b x
  between ls b x h e =
      let q = now + length ls in
      let whole : ls ++ x ∷ [] ≡ h.served = h.whole ∙ ap (λ l. h.served ++ l) e ∙ append-nil h.served in
      let served : Serves (take b.stop stops) now (ls ++ x ∷ []) = subst (λ l. Serves (take b.stop stops) now l) (sym whole) h.before in
      let (d, w) = parts.start_part (stop_at stops b.stop) (now + length h.served) h.part b.drive b.service (ap length e) h.partway in
      elim (cases_eq b.stop 0) [
        | inl z ↦ absurd (push_not_nil ls x (subst (λ i. Serves (take i stops) now (ls ++ x ∷ [])) z served))
        | inr n ↦
            let i = b.stop - 1 in
            let one : b.stop ≡ i + 1 = omega arith in
            let current = h.current in
            let (work, reached, r) = uncompletes ls x h.allowed i (omega arith) (subst (λ i. Serves (take i stops) now (ls ++ x ∷ [])) one served) in
            let a = earlier ls i 0 1 in
            let row = after (led after start now ls) q Work in
            let row_is : row ≡ b.row = ap (λ y. after (led after start now ls) q y) (sym work) ∙ row_after ls b x h in
            let next = leads.label_same (label_at stops (i + 1) b.from row) b (sym one) (sym (d ∙ ap (λ j. (stop_at stops j).drive) one)) (sym (w ∙ ap (λ j. (stop_at stops j).service) one)) refl row_is in
            let led-there = leads.last_work_leads stops q b.from a row b r (omega arith) (omega arith) next in
            (a, reached, moves ls b x h i 0 1 (subst (λ y. lead stops q b.from a (after (led after start now ls) q y) y ≡ Some b) (sym work) led-there))
      ]

  pub split : (ls : List Duty) (b : Label R) (x : Duty) → Reached names after stops start now (ls ++ x ∷ []) b → (a : Label R) × Reached names after stops start now ls a × (move names after stops (now + length ls) b.from a x ≡ Some b)
  split ls b x h =
      elim (ends h.part) [
        | inl e ↦ between ls b x h e
        | inr (front, y, e) ↦
            let (rest, same) = push-append ls h.served front x y (h.whole ∙ ap (λ l. h.served ++ l) e) in
            let part = e ∙ ap (λ z. front ++ z ∷ []) (sym same) in
            within ls b x h front rest (subst (λ l. Partway (stop_at stops b.stop) (now + length h.served) l b.drive b.service) part h.partway)
      ]

  pub finished : 0 < length stops → (ls : List Duty) → Allowed names after start now ls → Serves stops now ls → (front : List Duty) × (ls ≡ front ++ Work ∷ []) × ((a : Label R) × Reached names after stops start now front a × (serves_all names stops (now + length front) a ≡ true))
  finished some ls allowed h =
      let i = length stops - 1 in
      let served = serves-last stops now ls some h in
      elim (ends ls) [
        | inl e ↦
            let z = serves-some names after stops start now serviced i now ls (omega arith) served in
            let none = ap length e in
            absurd (omega arith)
        | inr (front, x, e) ↦
            let pushed = subst (λ l. Allowed names after start now l) e allowed in
            let (work, reached, r) = uncompletes front x pushed i (omega arith) (subst (λ l. Serves (take (i + 1) stops) now l) e served) in
            let none = subst (λ y. names (led after start now front) (now + length front) y ≡ None) work (less_none front x pushed) in (
              front,
              e ∙ ap (λ y. front ++ y ∷ []) work,
              (earlier front i 0 1, reached, leads.serves_from stops (now + length front) (earlier front i 0 1) names (none, r, refl, omega arith)),
            )
      ]

-- A move from a reached label leads to a reached label, and the last work of a tour serves it.
--   append               the letters and the move's status lead to the label that the move leads to
--   finish               where work serves the tour's last quarter, the letters and work are lawful and serve the tour
use Rattle.std.proofs.Common.{◌≡◌, ℕ, ◌+◌, ◌-◌, ◌<◌, true, List, [], ◌∷◌, ◌++◌, length, take, replicate, Some, None, Option, sym, refl, ap, ◌∙◌, subst, inl, inr, arith}
use Rattle.std.proofs.lemmas.List.{append-nil, append_assoc, take_all}
use Rattle.duty.specs.declared.Duty.{Duty}
use Rattle.duty.specs.declared.Duty.TheVariants.{Rest, Work, Drive}
use Rattle.rules.specs.declared.breach.Violation.{Violation}
use Rattle.rules.specs.Walk.{led, Allowed}
use Rattle.rules.proofs.Walk.{led-push, allowed-push}
use Rattle.planning.specs.declared.Label.{Label}
use Rattle.planning.specs.declared.Stop.{Stop}
use Rattle.planning.specs.Serving.{InWindow, Serves}
use Rattle.planning.specs.Labels.{stop_at, Partway, Reached}
use Rattle.planning.specs.Moves.{ready, move, serves_all}
use Rattle.planning.proofs.Stretches.{serves-push}
use Rattle.planning.proofs.Starts.{reached-sensible, there}
use Rattle.planning.proofs.Parts as parts
use Rattle.planning.proofs.Leads as leads

module _ {R : Type 0} (names : R → ℕ → Duty → Option Violation) (after : R → ℕ → Duty → R) (stops : List Stop) (start : R) (now : ℕ) (serviced : (i : ℕ) → i < length stops → 0 < (stop_at stops i).service) where
  module _ (ls : List Duty) (a : Label R) (x : Duty) (h : Reached names after stops start now ls a) (none : names a.row (now + length ls) x ≡ None) where
    more_allowed : Allowed names after start now (ls ++ x ∷ [])
    more_allowed = allowed-push names after ls start now x h.allowed (ap (λ r. names r (now + length ls) x) (sym h.state) ∙ none)

    more_led : after a.row (now + length ls) x ≡ led after start now (ls ++ x ∷ [])
    more_led = ap (λ r. after r (now + length ls) x) h.state ∙ sym (led-push names after ls start now x)

    -- still at the stop
    stays : (f d w : ℕ) → Partway (stop_at stops a.stop) (now + length h.served) (h.part ++ x ∷ []) d w → Reached names after stops start now (ls ++ x ∷ []) (record { stop = a.stop; drive = d; service = w; from = f; row = after a.row (now + length ls) x })
    stays f d w k =
        record {
          served = h.served;
          part = h.part ++ x ∷ [];
          whole = ap (λ l. l ++ x ∷ []) h.whole ∙ append_assoc h.served h.part (x ∷ []);
          allowed = more_allowed;
          state = more_led;
          current = h.current;
          before = h.before;
          partway = k;
        }

  module _ (ls : List Duty) (a : Label R) (h : Reached names after stops start now ls a) (r : ready stops (now + length ls) a ≡ true) where
    -- work may stand next
    startable : (a.drive ≡ 0) × parts.Startable (stop_at stops a.stop) (now + length h.served) h.part a.service
    startable =
        let (driven, s) = leads.ready_parts stops (now + length ls) a r in (
          driven,
          elim s [
            | inl begun ↦ inl begun
            | inr window ↦ inr (subst (λ q. InWindow (stop_at stops a.stop) q) (there names after stops start now serviced ls h.served h.part h.whole) window)
          ],
        )

    arrived : Partway (stop_at stops a.stop) (now + length h.served) h.part 0 a.service
    arrived = subst (λ d. Partway (stop_at stops a.stop) (now + length h.served) h.part d a.service) startable.0 h.partway

    -- the last work of the stop's service
    completes : a.service ≡ 1 → Serves (take (a.stop + 1) stops) now (ls ++ Work ∷ [])
    completes one =
        let stop = stop_at stops a.stop in
        let p = now + length h.served in
        let (travel, e, s) = parts.work_last stop p h.part (subst (λ w. Partway stop p h.part 0 w) one arrived) (subst (λ w. parts.Startable stop p h.part w) one startable.1) in
        let whole : ls ++ Work ∷ [] ≡ h.served ++ (travel ++ replicate stop.service Work) =
        ap (λ l. l ++ Work ∷ []) h.whole ∙ append_assoc h.served h.part (Work ∷ []) ∙ ap (λ l. h.served ++ l) e in
        subst (λ l. Serves (take (a.stop + 1) stops) now l) (sym whole) (serves-push stops a.stop now h.served travel h.current h.before s)

  pub append : (ls : List Duty) (a b : Label R) (f : ℕ) (x : Duty) → Reached names after stops start now ls a → move names after stops (now + length ls) f a x ≡ Some b → Reached names after stops start now (ls ++ x ∷ []) b
  append ls a b f Rest h e =
      let q = now + length ls in
      let (none, l) = leads.move_parts names after stops q f a b Rest e in
      let (t, same) = leads.lead_rest stops q f a (after a.row q Rest) b l in
      let stop = stop_at stops a.stop in
      let p = now + length h.served in
      let u = parts.partway-underway stop p h.part a.drive a.service h.partway t in
      subst (Reached names after stops start now (ls ++ Rest ∷ [])) same (stays ls a Rest h none f a.drive a.service (inl (parts.rest_on stop p h.part a.drive a.service u)))
  append ls a b f Drive h e =
      let q = now + length ls in
      let (none, l) = leads.move_parts names after stops q f a b Drive e in
      let (t, some, same) = leads.lead_drive stops q f a (after a.row q Drive) b l in
      let stop = stop_at stops a.stop in
      let p = now + length h.served in
      let u = parts.partway-underway stop p h.part a.drive a.service h.partway t in
      subst (Reached names after stops start now (ls ++ Drive ∷ [])) same (stays ls a Drive h none f (a.drive - 1) a.service (inl (parts.drive_on stop p h.part a.drive a.service some u)))
  append ls a b f Work h e =
      let q = now + length ls in
      let (none, l) = leads.move_parts names after stops q f a b Work e in
      let (r, ways) = leads.lead_work stops q f a (after a.row q Work) b l in
      let stop = stop_at stops a.stop in
      let p = now + length h.served in
      let (driven, s) = startable ls a h r in
      elim ways [
        | inl (lt, same) ↦
            subst (Reached names after stops start now (ls ++ Work ∷ [])) same (stays ls a Work h none f a.drive (a.service - 1) (subst (λ d. Partway stop p (h.part ++ Work ∷ []) d (a.service - 1)) (sym driven) (parts.work_on stop p h.part a.service lt (arrived ls a h r) s)))
        | inr (le, next, same) ↦
            let some = (reached-sensible names after stops start now serviced ls a h).some in
            subst (Reached names after stops start now (ls ++ Work ∷ [])) same
            (record {
              served = ls ++ Work ∷ [];
              part = [];
              whole = sym (append-nil _);
              allowed = more_allowed ls a Work h none;
              state = more_led ls a Work h none;
              current = next;
              before = completes ls a h r (omega arith);
              partway = inl (record { travelling = refl; driven = omega arith; unserved = refl });
            })
      ]

  pub finish : (ls : List Duty) (a : Label R) → Reached names after stops start now ls a → serves_all names stops (now + length ls) a ≡ true → Allowed names after start now (ls ++ Work ∷ []) × Serves stops now (ls ++ Work ∷ [])
  finish ls a h e =
      let (none, r, one, end) = leads.serves_parts stops (now + length ls) a names e in (
        more_allowed ls a Work h none,
        subst (λ t. Serves t now (ls ++ Work ∷ [])) (take_all (a.stop + 1) stops (omega arith)) (completes ls a h r one),
      )

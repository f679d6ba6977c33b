-- A label that covers another has a move for each of its moves, to a label that covers where that one leads: the same status, or
-- rest for driving where it has less driving left.
--   monotone             of a move
--   monotone_serves      of the work that serves the tour's last quarter, which is the same for both
use Rattle.std.proofs.Common.{◌≡◌, ℕ, ◌+◌, ◌-◌, ◌<◌, true, List, Some, None, Option, sym, refl, ap, ◌∙◌, subst, inl, inr, ⊎_elim, arith}
use Rattle.std.proofs.lemmas.Bool.{cases_lt}
use Rattle.duty.specs.declared.Duty.{Duty}
use Rattle.duty.specs.declared.Duty.TheVariants.{Rest, Work, Drive}
use Rattle.rules.specs.declared.breach.Violation.{Violation}
use Rattle.planning.specs.declared.Label.{Label}
use Rattle.planning.specs.declared.Stop.{Stop}
use Rattle.planning.specs.Serving.{InWindow}
use Rattle.planning.specs.Labels.{stop_at, Begun, Covers}
use Rattle.planning.specs.Moves.{ready, label_at, lead, move, serves_all}
use Rattle.planning.specs.Plain.{Plainly}
use Rattle.planning.proofs.Starts.{Sensible}
use Rattle.planning.proofs.Leads.{rested, driven, worked, ready_parts, ready_from, serves_parts, serves_from, lead_rest, rest_leads, lead_drive, drive_leads, lead_work, work_leads, last_work_leads, move_parts, move-made}
use Rattle.planning.proofs.Covering.{covers_plain, plain_covers}

module _ {R : Type 0} (better : R → R → Type 0) (stops : List Stop) (q f : ℕ) (a b : Label R) (sa : Sensible stops a) (sb : Sensible stops b) (c : Covers better stops a b) where
  plain : Plainly better a b
  plain = covers_plain better stops a b sa sb c

  same_service : (stop_at stops a.stop).service ≡ (stop_at stops b.stop).service
  same_service = ap (λ i. (stop_at stops i).service) c.stop

  unbegun : (Begun stops b → ⊥) → Begun stops a → ⊥
  unbegun n h =
      let p = plain in
      let s = same_service in n (omega arith)

  covers-ready : ready stops q b ≡ true → ready stops q a ≡ true
  covers-ready r =
      let p = plain in
      let s = same_service in
      let t = ready_parts stops q b r in
      ready_from stops q a (
        omega arith,
        ⊎_elim (λ l. inl (omega arith)) (λ w. inr (subst (λ i. InWindow (stop_at stops i) q) (sym c.stop) w)) t.1,
      )

  covers-rested : (s t : R) → better s t → Covers better stops (rested f a s) (rested f b t)
  covers-rested s t e = let p = plain in plain_covers better stops _ _ (p.0, p.1, p.2, e)

  covers-driven : (s t : R) → better s t → Covers better stops (driven f a s) (driven f b t)
  covers-driven s t e = let p = plain in plain_covers better stops _ _ (p.0, p.1, omega arith, e)

  -- rest, where the other has more driving left
  covers_less : (s t : R) → better s t → a.drive < b.drive → Covers better stops (rested f a s) (driven f b t)
  covers_less s t e l = let p = plain in plain_covers better stops _ _ (p.0, p.1, omega arith, e)

  covers-worked : (s t : R) → better s t → Covers better stops (worked f a s) (worked f b t)
  covers-worked s t e = let p = plain in plain_covers better stops _ _ (p.0, ap (λ n. n - 1) p.1, p.2, e)

  covers_next : (s t : R) → better s t → Covers better stops (label_at stops (a.stop + 1) f s) (label_at stops (b.stop + 1) f t)
  covers_next s t e =
      plain_covers better stops _ _ (
        ap (λ i. i + 1) c.stop,
        ap (λ i. (stop_at stops (i + 1)).service) c.stop,
        let same : (stop_at stops (a.stop + 1)).drive ≡ (stop_at stops (b.stop + 1)).drive = ap (λ i. (stop_at stops (i + 1)).drive) c.stop in omega arith,
        e,
      )

module _ {R : Type 0} (names : R → ℕ → Duty → Option Violation) (after : R → ℕ → Duty → R) (better : R → R → Type 0) (sound : R → Type 0) (stops : List Stop)
    (transitive : (s t u : R) → better s t → better t u → better s u)
    (rests : (s : R) (q : ℕ) → sound s → q < 2688 → names s q Rest ≡ None)
    (keeps : (a b : R) (q : ℕ) (x : Duty) → sound a → sound b → q < 2688 → better a b → names b q x ≡ None → (names a q x ≡ None) × better (after a q x) (after b q x))
    (relieves : (s : R) (q : ℕ) → sound s → q < 2688 → names s q Drive ≡ None → better (after s q Rest) (after s q Drive)) where
  module _ (q : ℕ) (early : q < 2688) (a b : Label R) (sa : Sensible stops a) (sb : Sensible stops b) (oa : sound a.row) (ob : sound b.row) (c : Covers better stops a b) where
    -- a has a move to a label that covers b'
    abbrev Answered : ℕ → Label R → Type 0
    Answered f b' = (y : Duty) × (a' : Label R) × (move names after stops q f a y ≡ Some a') × Covers better stops a' b'

    answer : (f : ℕ) (b' : Label R) (x : Duty) → (names b.row q x ≡ None) → lead stops q f b (after b.row q x) x ≡ Some b' → Answered f b'
    answer f b' Rest n e =
        let (na, up) = keeps a.row b.row q Rest oa ob early c.row n in
        let (t, same) = lead_rest stops q f b (after b.row q Rest) b' e in
        let s = after a.row q Rest in (
          Rest,
          rested f a s,
          move-made names after stops q f a _ Rest na (rest_leads stops q f a s _ (unbegun better stops q f a b sa sb c t) refl),
          subst (Covers better stops (rested f a s)) same (covers-rested better stops q f a b sa sb c s (after b.row q Rest) up),
        )
    answer f b' Drive n e =
        let (na, up) = keeps a.row b.row q Drive oa ob early c.row n in
        let (t, some, same) = lead_drive stops q f b (after b.row q Drive) b' e in
        let fresh = unbegun better stops q f a b sa sb c t in
        let s = after a.row q Drive in
        let r = after a.row q Rest in
        ⊎_elim {C = Answered f b'}
        (λ l. (
          Rest,
          rested f a r,
          move-made names after stops q f a _ Rest (rests a.row q oa early) (rest_leads stops q f a r _ fresh refl),
          subst (Covers better stops (rested f a r)) same (covers_less better stops q f a b sa sb c r (after b.row q Drive) (transitive _ _ _ (relieves a.row q oa early na) up) l),
        ))
        (λ l. (
          Drive,
          driven f a s,
          move-made names after stops q f a _ Drive na (drive_leads stops q f a s _ fresh (omega arith) refl),
          subst (Covers better stops (driven f a s)) same (covers-driven better stops q f a b sa sb c s (after b.row q Drive) up),
        ))
        (cases_lt a.drive b.drive)
    answer f b' Work n e =
        let (na, up) = keeps a.row b.row q Work oa ob early c.row n in
        let (r, ways) = lead_work stops q f b (after b.row q Work) b' e in
        let set = covers-ready better stops q f a b sa sb c r in
        let p = covers_plain better stops a b sa sb c in
        let s = after a.row q Work in
        ⊎_elim {C = Answered f b'}
        (λ w. (
          Work,
          worked f a s,
          move-made names after stops q f a _ Work na (work_leads stops q f a s _ set (omega arith) refl),
          subst (Covers better stops (worked f a s)) w.1 (covers-worked better stops q f a b sa sb c s (after b.row q Work) up),
        ))
        (λ w. (
          Work,
          label_at stops (a.stop + 1) f s,
          move-made names after stops q f a _ Work na (last_work_leads stops q f a s _ set (omega arith) (omega arith) refl),
          subst (Covers better stops (label_at stops (a.stop + 1) f s)) w.2 (covers_next better stops q f a b sa sb c s (after b.row q Work) up),
        ))
        ways

  pub monotone : (q : ℕ) → q < 2688 → (a b b' : Label R) (f : ℕ) (x : Duty) → Sensible stops a → Sensible stops b → sound a.row → sound b.row → Covers better stops a b → move names after stops q f b x ≡ Some b' → (y : Duty) × (a' : Label R) × (move names after stops q f a y ≡ Some a') × Covers better stops a' b'
  monotone q early a b b' f x sa sb oa ob c e =
      let t = move_parts names after stops q f b b' x e in answer q early a b sa sb oa ob c f b' x t.0 t.1

  pub monotone_serves : (q : ℕ) → q < 2688 → (a b : Label R) → Sensible stops a → Sensible stops b → sound a.row → sound b.row → Covers better stops a b → serves_all names stops q b ≡ true → serves_all names stops q a ≡ true
  monotone_serves q early a b sa sb oa ob c e =
      let t = serves_parts stops q b names e in
      let p = covers_plain better stops a b sa sb c in
      serves_from stops q a names ((keeps a.row b.row q Work oa ob early c.row t.0).0, covers-ready better stops q 0 a b sa sb c t.1, p.1 ∙ t.2, ap (λ i. i + 1) p.0 ∙ t.3)

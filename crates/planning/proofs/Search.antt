-- The search by quarters, in a setting (Laws.antt): which labels are right before
-- the first quarter and one quarter on, that they are as few as can be, and when no letters serve the tour.
--   start_alive, start_dead    the labels right at `now`: the one at the tour's beginning, or none where that is not alive
--   next_right                 G is right at q + 1 if it is made from the right labels F of q, keeps all that they lead to, and is apart
--   needed-right               the number of right labels is the number needed
--   no_end_now                 letters that serve the tour take at least one quarter
--   no_end_next                no letters serve the tour with q as its last quarter if work serves it from none of the right labels of q
--   reached_sound              the row of a reached label is sound
use Rattle.std.proofs.Common.{◌≡◌, ℕ, ◌+◌, ◌<◌, ◌≤◌, true, false, List, [], ◌∷◌, ◌++◌, length, get_or, Some, Option, sym, ap, subst, inl, inr, ⊎_elim, arith}
use Rattle.std.proofs.lemmas.List.{length_push, nil_from_length}
use Rattle.std.proofs.lemmas.Bool.{both_ways}
use Rattle.duty.specs.declared.Duty.{Duty}
use Rattle.duty.specs.declared.Duty.TheVariants.{Work}
use Rattle.rules.specs.declared.breach.Violation.{Violation}
use Rattle.rules.specs.Walk.{Allowed}
use Rattle.planning.specs.declared.Label.{Label}
use Rattle.planning.specs.declared.Stop.{Stop}
use Rattle.planning.specs.Serving.{Serves}
use Rattle.planning.specs.Labels.{stop_at, Reached, Reachable, Alive, Covers, Needed}
use Rattle.planning.specs.Moves.{label_at, move, serves_all}
use Rattle.planning.proofs.Tallies.{ends}
use Rattle.planning.proofs.Starts.{start_reached, start_only}
use Rattle.planning.proofs.Split.{split, finished}
use Rattle.planning.proofs.Covering.{covers_trans}
use Rattle.planning.proofs.Alive.{alive_back, alive-covers, alive-serves}
use Rattle.planning.proofs.Monotone.{monotone, monotone_serves}
use Rattle.planning.proofs.Smallest.{Lone}
use Rattle.planning.proofs.Right.{kept-covers, led_sound, right-needed}
pub use Rattle.planning.proofs.Laws.{Laws, Setting}
pub use Rattle.planning.proofs.Stretches.{serve_bound}
pub use Rattle.planning.proofs.Starts.{Sensible, reached-sensible}
pub use Rattle.planning.proofs.Append.{append, finish}
pub use Rattle.planning.proofs.Covering.{plain_covers, covers_plain}
pub use Rattle.planning.proofs.Right.{Right, Kept, Made}

module _ {R : Type 0} {names : R → ℕ → Duty → Option Violation} {after : R → ℕ → Duty → R} {better : R → R → Type 0} {sound : R → Type 0} {stops : List Stop} {start : R} (set : Setting names after better sound stops start) (now : ℕ) where
  -- the right labels of a quarter, and the labels reachable at it
  abbrev RightAt : ℕ → List (Label R) → Type 0
  RightAt = Right names after better stops start now

  abbrev Reach : ℕ → Label R → Type 0
  Reach = Reachable names after stops start now

  pub reached_sound : (ls : List Duty) (a : Label R) → Reached names after stops start now ls a → sound a.row
  reached_sound ls a r = subst sound (sym r.state) (led_sound after sound set.laws.endures ls start now set.start-sound)

  sensible : (q : ℕ) (a : Label R) → Reach q a → Sensible stops a
  sensible q a (ls, e, r) = reached-sensible names after stops start now set.serviced ls a r

  sounds : (q : ℕ) (a : Label R) → Reach q a → sound a.row
  sounds q a (ls, e, r) = reached_sound ls a r

  begins : (b : Label R) → Reach now b → (b.stop ≡ 0) × (b.drive ≡ (stop_at stops 0).drive) × (b.service ≡ (stop_at stops 0).service) × (b.row ≡ start)
  begins b (ls, e, r) = start_only names after stops start now set.serviced b (subst (λ l. Reached names after stops start now l b) (nil_from_length ls (omega arith)) r)

  pub start_dead : (f : ℕ) → (Alive stops now (label_at stops 0 f start) → ⊥) → Right names after better stops start now now []
  start_dead f dead = record {
    cover = record {
      each = λ j d h. absurd (omega arith);
      all = λ b l r.
          let s = begins b r in
          let served : (stop_at stops b.stop).service ≡ (stop_at stops 0).service = ap (λ i. (stop_at stops i).service) s.0 in
          let closed : (stop_at stops b.stop).closes ≡ (stop_at stops 0).closes = ap (λ i. (stop_at stops i).closes) s.0 in
          absurd (dead (⊎_elim (λ b. inl (omega arith)) (λ t. inr (omega arith)) l));
    };
    apart = λ i j d hi hj n c. omega arith;
  }

  pub start_alive : (f : ℕ) → Alive stops now (label_at stops 0 f start) → Right names after better stops start now now (label_at stops 0 f start ∷ [])
  start_alive f alive =
      let first = label_at stops 0 f start in
      record {
        cover = record {
          each = λ j d h.
              let z : 0 ≡ j = omega arith in
              subst (λ i. Alive stops now (get_or (first ∷ []) i d) × Reach now (get_or (first ∷ []) i d)) z (alive, ([], omega arith, start_reached names after stops start now set.serviced f set.some-stop));
          all = λ b l r.
              let s = begins b r in
              let served : (stop_at stops b.stop).service ≡ (stop_at stops 0).service = ap (λ i. (stop_at stops i).service) s.0 in
              (0, omega arith, record { stop = sym s.0; row = subst (better start) (sym s.3) (set.laws.reflexive start); far = inr (omega arith, omega arith, omega arith) });
        };
        apart = λ i j d hi hj n c. n (omega arith);
      }

  -- what a move leads to is reachable one quarter on
  reach_next : (q : ℕ) (a b : Label R) (f : ℕ) (x : Duty) → Reach q a → move names after stops q f a x ≡ Some b → Reach (q + 1) b
  reach_next q a b f x (ls, there, r) e = (
    ls ++ x ∷ [],
    omega (arith, length_push ls x),
    append names after stops start now set.serviced ls a b f x r (subst (λ p. move names after stops p f a x ≡ Some b) (sym there) e),
  )

  -- and what is reachable one quarter on comes by a move
  reach_back : (q : ℕ) → now ≤ q → (b : Label R) → Reach (q + 1) b → (a : Label R) × (x : Duty) × Reach q a × (move names after stops q b.from a x ≡ Some b)
  reach_back q begun b (ls, end, r) =
      elim (ends ls) [
        | inl e ↦ absurd (omega (arith, ap length e))
        | inr (front, x, e) ↦
            let (a, ra, m) = split names after stops start now set.serviced front b x (subst (λ l. Reached names after stops start now l b) e r) in
            let there : now + length front ≡ q = omega (arith, ap length e, length_push front x) in
            (a, x, (front, there, ra), subst (λ p. move names after stops p b.from a x ≡ Some b) there m)
      ]

  -- all that the labels of F lead to is kept in G
  abbrev KeepsAll : ℕ → List (Label R) → List (Label R) → Type 0
  KeepsAll q F G = (j : ℕ) (d : Label R) (x : Duty) → j < length F → Kept names after better stops q (get_or F j d) x G

  covered_next : (q : ℕ) → now ≤ q → q < 2688 → (F G : List (Label R)) → RightAt q F → KeepsAll q F G → (b : Label R) → Alive stops (q + 1) b → Reach (q + 1) b → (k : ℕ) × (k < length G) × Covers better stops (get_or G k b) b
  covered_next q begun early F G right kept b alive r =
      let (a, x, ra, e) = reach_back q begun b r in
      let (j, in-F, c) = right.cover.all a (alive_back names after stops q b.from a b x e alive) ra in
      let aj = get_or F j a in
      let rj = (right.cover.each j a in-F).1 in
      let (y, a', e', c') = monotone names after better sound stops set.laws.transitive set.laws.rests set.laws.keeps set.laws.relieves q early aj a b b.from x (sensible q aj rj) (sensible q a ra) (sounds q aj rj) (sounds q a ra) c e in
      let (k, in-G, g) = kept-covers names after better stops q aj a' y b.from G (kept j a y in-F) e' (alive-covers stops (q + 1) better a' b c' alive) b in
      (k, in-G, covers_trans better stops set.laws.transitive (get_or G k b) a' b g c')

  pub next_right : (q : ℕ) → now ≤ q → q < 2688 → (F G : List (Label R)) → Right names after better stops start now q F → Made names after stops q F G → ((j : ℕ) (d : Label R) (x : Duty) → j < length F → Kept names after better stops q (get_or F j d) x G) → Lone (Covers better stops) G → Right names after better stops start now (q + 1) G
  next_right q begun early F G right made kept apart = record {
    cover = record {
      each = λ k d h. let (alive, (j, f, x, in-F, e)) = made k d h in (alive, reach_next q (get_or F j d) (get_or G k d) f x (right.cover.each j d in-F).1 e);
      all = covered_next q begun early F G right kept;
    };
    apart = apart;
  }

  pub needed-right : (q : ℕ) (F : List (Label R)) → Right names after better stops start now q F → Needed names after better stops start now q (length F)
  needed-right = right-needed names after better stops start now set.laws.transitive

  pub no_end_now : (ls : List Duty) → Allowed names after start now ls → Serves stops now ls → now + length ls ≤ now → ⊥
  no_end_now ls allowed serves none =
      let (front, whole, last) = finished names after stops start now set.serviced set.some-stop ls allowed serves in
      omega (arith, ap length whole, length_push front Work)

  pub no_end_next : (q : ℕ) → q < 2688 → (F : List (Label R)) → Right names after better stops start now q F → ((j : ℕ) (d : Label R) → j < length F → serves_all names stops q (get_or F j d) ≡ false) → (ls : List Duty) → Allowed names after start now ls → Serves stops now ls → now + length ls ≡ q + 1 → ⊥
  no_end_next q early F right none ls allowed serves end =
      let (front, whole, (a, reached, last)) = finished names after stops start now set.serviced set.some-stop ls allowed serves in
      let there : now + length front ≡ q = omega (arith, ap length whole, length_push front Work) in
      let ra : Reach q a = (front, there, reached) in
      let serve = subst (λ p. serves_all names stops p a ≡ true) there last in
      let (j, in-F, c) = right.cover.all a (alive-serves stops q names a serve) ra in
      let aj = get_or F j a in
      let rj = (right.cover.each j a in-F).1 in
      both_ways (serves_all names stops q aj) (none j a in-F) (monotone_serves names after better sound stops set.laws.transitive set.laws.rests set.laws.keeps set.laws.relieves q early aj a (sensible q aj rj) (sensible q a ra) (sounds q aj rj) (sounds q a ra) c serve)

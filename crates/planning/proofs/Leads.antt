-- What the tests of a move say, and where each status leads.
--   rested, driven, worked    the labels that rest, driving and a quarter of work within a service lead to
--   Ready, Last               what the tests `ready` and `serves_all` say
--   lead_rest, ..             where a status leads, taken apart, and rest_leads, .. put together
--   move_parts, move-made     a move is a status that the book allows, with where it leads
--   move_again                a move leads as far with any other `from`
use Rattle.std.proofs.Common.{◌≡◌, ℕ, ◌+◌, ◌-◌, ◌<◌, ◌≤◌, Bool, true, false, cond, not, ◌||◌, eqb, ltb, leb, ◌⊎◌, List, length, is_some, Some, None, Option, sym, refl, ap, ◌∙◌, inl, inr, arith}
use Rattle.std.proofs.lemmas.Bool.{ltb-true, ltb-false, leb-true, eqb-true, eqb-false, lt-ltb, le-ltb, le-leb, eq-eqb, ne_eqb, and_parts, and_from, or_cases, or_parts, or_from, or_left, or_right, cond-false, not-true}
use Rattle.duty.specs.declared.Duty.{Duty}
use Rattle.duty.specs.declared.Duty.TheVariants.{Rest, Work, Drive}
use Rattle.rules.specs.declared.breach.Violation.{Violation}
use Rattle.rules.specs.LayersLemmas.{some-none}
use Rattle.planning.specs.declared.Label.{Label}
use Rattle.planning.specs.declared.Stop.{Stop}
use Rattle.planning.specs.Serving.{InWindow}
use Rattle.planning.specs.Labels.{stop_at, Begun}
use Rattle.planning.specs.Moves.{begun, ready, label_at, lead, move, serves_all}

module _ {X : Type 0} where
  some_same : (x y : X) → Some x ≡ Some y → x ≡ y
  some_same x y e = cc

  cond_else : (t : Bool) (o : Option X) (y : X) → cond t None o ≡ Some y → (t ≡ false) × (o ≡ Some y)
  cond_else true o y e = absurd (some-none y (sym e))
  cond_else false o y e = (refl, e)

  cond_then : (t : Bool) (o : Option X) (y : X) → cond t o None ≡ Some y → (t ≡ true) × (o ≡ Some y)
  cond_then true o y e = (refl, e)
  cond_then false o y e = absurd (some-none y (sym e))

  cond_either : (t : Bool) (x : X) (o : Option X) (y : X) → cond t (Some x) o ≡ Some y → ((t ≡ true) × (x ≡ y)) ⊎ ((t ≡ false) × (o ≡ Some y))
  cond_either true x o y e = inl (refl, some_same x y e)
  cond_either false x o y e = inr (refl, e)

  none-since : (o : Option X) → is_some o ≡ false → o ≡ None
  none-since None e = refl
  none-since (Some x) e = let z : ◌≡◌ {A = ℕ} 0 1 = cc in absurd (omega arith)

  abbrev pub rested : ℕ → Label X → X → Label X
  rested f a row = record { stop = a.stop; drive = a.drive; service = a.service; from = f; row = row }

  abbrev pub driven : ℕ → Label X → X → Label X
  driven f a row = record { stop = a.stop; drive = a.drive - 1; service = a.service; from = f; row = row }

  abbrev pub worked : ℕ → Label X → X → Label X
  worked f a row = record { stop = a.stop; drive = a.drive; service = a.service - 1; from = f; row = row }

  -- the label with another `from`
  abbrev pub from_now : ℕ → Label X → Label X
  from_now g b = record { stop = b.stop; drive = b.drive; service = b.service; from = g; row = b.row }

  pub label_same : (a b : Label X) → a.stop ≡ b.stop → a.drive ≡ b.drive → a.service ≡ b.service → a.from ≡ b.from → a.row ≡ b.row → a ≡ b
  label_same a b s d w f r = λ i. record { stop = s i; drive = d i; service = w i; from = f i; row = r i }

module _ {R : Type 0} (stops : List Stop) (a : Label R) where
  begun_not : begun stops a ≡ false → Begun stops a → ⊥
  begun_not e h = omega (arith, ltb-false a.service (stop_at stops a.stop).service e)

  not_begun : (Begun stops a → ⊥) → begun stops a ≡ false
  not_begun h = le-ltb a.service (stop_at stops a.stop).service (omega arith)

module _ {R : Type 0} (stops : List Stop) (q : ℕ) (a : Label R) where
  -- no driving is left, and the service has begun or may begin
  abbrev pub Ready : Type 0
  Ready = (a.drive ≡ 0) × (Begun stops a ⊎ InWindow (stop_at stops a.stop) q)

  pub ready_parts : ready stops q a ≡ true → Ready
  ready_parts r =
      let s = stop_at stops a.stop in
      let (none, rest) = and_parts (eqb a.drive 0) _ r in (
        eqb-true a.drive 0 none,
        elim (or_cases (begun stops a) _ rest) [
          | inl t ↦ inl (ltb-true _ _ t)
          | inr t ↦ let (o, c) = and_parts (leb s.opens q) _ t in inr (leb-true _ _ o, leb-true _ _ c)
        ],
      )

  pub ready_from : Ready → ready stops q a ≡ true
  ready_from (none, inl t) = and_from (eqb a.drive 0) _ (eq-eqb _ _ none) (or_left (begun stops a) _ (lt-ltb _ _ t))
  ready_from (none, inr t) =
      and_from (eqb a.drive 0) _ (eq-eqb _ _ none) (or_right (begun stops a) _ (and_from _ _ (le-leb _ _ t.0) (le-leb _ _ t.1)))

  module _ (names : R → ℕ → Duty → Option Violation) where
    -- the book allows work at the quarter, the label is ready, and one quarter of the last service is left
    abbrev pub Last : Type 0
    Last = (names a.row q Work ≡ None) × (ready stops q a ≡ true) × (a.service ≡ 1) × (a.stop + 1 ≡ length stops)

    pub serves_parts : serves_all names stops q a ≡ true → Last
    serves_parts e =
        let (e1, stop) = and_parts _ (eqb (a.stop + 1) (length stops)) e in
        let (e2, service) = and_parts _ (eqb a.service 1) e1 in
        let (none, set) = and_parts (not (is_some (names a.row q Work))) (ready stops q a) e2 in
        (none-since (names a.row q Work) (not-true _ none), set, eqb-true _ _ service, eqb-true _ _ stop)

    pub serves_from : Last → serves_all names stops q a ≡ true
    serves_from (none, set, service, stop) = rw (none, set, eq-eqb a.service 1 service, eq-eqb (a.stop + 1) (length stops) stop) refl

module _ {R : Type 0} (stops : List Stop) (q f : ℕ) (a : Label R) (row : R) (b : Label R) where
  pub lead_rest : lead stops q f a row Rest ≡ Some b → (Begun stops a → ⊥) × (rested f a row ≡ b)
  lead_rest e =
      let (t, o) = cond_else (begun stops a) (Some (rested f a row)) b e in (begun_not stops a t, some_same _ b o)

  pub rest_leads : (Begun stops a → ⊥) → rested f a row ≡ b → lead stops q f a row Rest ≡ Some b
  rest_leads t e = cond-false (begun stops a) None (Some (rested f a row)) (not_begun stops a t) ∙ ap Some e

  pub lead_drive : lead stops q f a row Drive ≡ Some b → (Begun stops a → ⊥) × (0 < a.drive) × (driven f a row ≡ b)
  lead_drive e =
      let (t, o) = cond_else (begun stops a || eqb a.drive 0) (Some (driven f a row)) b e in
      let (u, z) = or_parts (begun stops a) (eqb a.drive 0) t in
      let some : a.drive ≡ 0 → ⊥ = eqb-false a.drive 0 z in (begun_not stops a u, omega arith, some_same _ b o)

  pub drive_leads : (Begun stops a → ⊥) → 0 < a.drive → driven f a row ≡ b → lead stops q f a row Drive ≡ Some b
  drive_leads t some e =
      cond-false (begun stops a || eqb a.drive 0) None (Some (driven f a row)) (or_from _ _ (not_begun stops a t) (ne_eqb a.drive 0 (λ z. omega arith)))
      ∙ ap Some e

  -- within the service, or on to the next stop
  pub lead_work : lead stops q f a row Work ≡ Some b → (ready stops q a ≡ true) × (((1 < a.service) × (worked f a row ≡ b)) ⊎ ((a.service ≤ 1) × (a.stop + 1 < length stops) × (label_at stops (a.stop + 1) f row ≡ b)))
  lead_work e =
      let next : Option (Label R) = cond (ltb (a.stop + 1) (length stops)) (Some (label_at stops (a.stop + 1) f row)) None in
      let (r, o) = cond_then (ready stops q a) (cond (ltb 1 a.service) (Some (worked f a row)) next) b e in (
        r,
        elim (cond_either (ltb 1 a.service) (worked f a row) next b o) [
          | inl (l, same) ↦ inl (ltb-true 1 a.service l, same)
          | inr (l, k) ↦
              let (m, n) = cond_then (ltb (a.stop + 1) (length stops)) (Some (label_at stops (a.stop + 1) f row)) b k in
              inr (ltb-false 1 a.service l, ltb-true (a.stop + 1) (length stops) m, some_same _ b n)
        ],
      )

  pub work_leads : ready stops q a ≡ true → 1 < a.service → worked f a row ≡ b → lead stops q f a row Work ≡ Some b
  work_leads r l e = rw (r, lt-ltb 1 a.service l) (ap Some e)

  pub last_work_leads : ready stops q a ≡ true → a.service ≤ 1 → a.stop + 1 < length stops → label_at stops (a.stop + 1) f row ≡ b → lead stops q f a row Work ≡ Some b
  last_work_leads r l m e = rw (r, le-ltb 1 a.service l, lt-ltb (a.stop + 1) (length stops) m) (ap Some e)

module _ {R : Type 0} (names : R → ℕ → Duty → Option Violation) (after : R → ℕ → Duty → R) (stops : List Stop) (q f : ℕ) (a b : Label R) where
  pub move_parts : (x : Duty) → move names after stops q f a x ≡ Some b → (names a.row q x ≡ None) × (lead stops q f a (after a.row q x) x ≡ Some b)
  move_parts x e = let (t, o) = cond_else (is_some (names a.row q x)) _ b e in (none-since (names a.row q x) t, o)

  pub move-made : (x : Duty) → names a.row q x ≡ None → lead stops q f a (after a.row q x) x ≡ Some b → move names after stops q f a x ≡ Some b
  move-made x n e = cond-false (is_some (names a.row q x)) None _ (ap is_some n) ∙ e

  lead_again : (g : ℕ) (row : R) (x : Duty) → lead stops q f a row x ≡ Some b → lead stops q g a row x ≡ Some (from_now g b)
  lead_again g row Rest e =
      let (t, same) = lead_rest stops q f a row b e in rest_leads stops q g a row (from_now g b) t (ap (from_now g) same)
  lead_again g row Drive e =
      let (t, some, same) = lead_drive stops q f a row b e in drive_leads stops q g a row (from_now g b) t some (ap (from_now g) same)
  lead_again g row Work e =
      let (r, ways) = lead_work stops q f a row b e in
      elim ways [
        | inl (l, same) ↦ work_leads stops q g a row (from_now g b) r l (ap (from_now g) same)
        | inr (l, m, same) ↦ last_work_leads stops q g a row (from_now g b) r l m (ap (from_now g) same)
      ]

pub move_again : {R : Type 0} (names : R → ℕ → Duty → Option Violation) (after : R → ℕ → Duty → R) (stops : List Stop) (q f g : ℕ) (a b : Label R) (x : Duty) → move names after stops q f a x ≡ Some b → move names after stops q g a x ≡ Some (from_now g b)
move_again names after stops q f g a b x e =
    let (n, l) = move_parts names after stops q f a b x e in
    move-made names after stops q g a (from_now g b) x n (lead_again names after stops q f a b g (after a.row q x) x l)

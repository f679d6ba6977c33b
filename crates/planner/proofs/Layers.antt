-- The labels of a layer: what is in `candidates` and `layer`, and that each comes by a move. Assumes nothing.
--   alive-true, true-alive   the test `alive` says that a label is Alive
--   move_from                a move gives the label that it leads to the `from` that it is told
--   layer_from               what is in a layer comes by a move from one of the labels, and is alive
--   layer_has                what a label moves to is in the layer if it is alive
--   chosen_from              so does what stands at a place of a list chosen from a layer
use Rattle.std.proofs.Common.{◌≡◌, ℕ, zero, suc, ◌+◌, ◌<◌, ◌≤◌, Bool, true, false, cond, eqb, ◌⊎◌, List, [], ◌∷◌, length, get_or, Some, None, Option, sym, refl, ap, ◌∙◌, subst, inl, inr, ⊎_elim, arith}
use Rattle.std.proofs.lemmas.Bool.{ltb-true, leb-true, lt-ltb, le-leb, eq-eqb, ne_eqb, or_cases, or_left, or_right, cond-true, cond-false, true≢false}
use Rattle.duty.specs.declared.Duty.{Duty}
use Rattle.duty.specs.declared.Duty.TheVariants.{Rest, Work, Drive}
use Rattle.rules.specs.declared.breach.Violation.{Violation}
use Rattle.frontier.specs.Lists.{In, Subsequence}
use Rattle.frontier.proofs.Members.{in_left, in_right, in_cases, subsequence-in}
use Rattle.planning.specs.declared.Label.{Label}
use Rattle.planning.specs.declared.Stop.{Stop}
use Rattle.planning.specs.Labels.{Alive}
use Rattle.planning.specs.Moves.{begun, lead, move}
use Rattle.planning.proofs.Members.{at_in}
use Rattle.planning.proofs.Leads.{ready_parts, lead_rest, lead_drive, lead_work, move_parts}
use Rattle.planner.specs.Trail.{entry}
use Rattle.planner.specs.Candidates.{alive, live, second, candidates, layer}

module _ {R : Type 0} (stops : List Stop) (q : ℕ) where
  pub alive-true : (a : Label R) → alive stops q a ≡ true → Alive stops q a
  alive-true a e = ⊎_elim (λ t. inl (ltb-true _ _ t)) (λ t. inr (leb-true _ _ t)) (or_cases (begun stops a) _ e)

  pub true-alive : (a : Label R) → Alive stops q a → alive stops q a ≡ true
  true-alive a (inl t) = or_left (begun stops a) _ (lt-ltb _ _ t)
  true-alive a (inr t) = or_right (begun stops a) _ (le-leb _ _ t)

  pub alive-false : (a : Label R) → alive stops q a ≡ false → Alive stops q a → ⊥
  alive-false a e h = let z : true ≡ false = sym (true-alive a h) ∙ e in absurd (true≢false z)

  -- the label that was moved to, if it is alive
  cond-in : (t : Bool) (b g : Label R) → In g (cond t (b ∷ []) []) → (t ≡ true) × (b ≡ g)
  cond-in true b g (inl e) = (refl, e)
  cond-in true b g (inr h) = absurd h
  cond-in false b g h = absurd h

  live_from : (o : Option (Label R)) (g : Label R) → In g (live stops q o) → (o ≡ Some g) × Alive stops q g
  live_from None g h = absurd h
  live_from (Some b) g h =
      let (t, e) = cond-in (alive stops q b) b g h in (ap Some e, subst (Alive stops q) e (alive-true b t))

  live_has : (o : Option (Label R)) (g : Label R) → o ≡ Some g → Alive stops q g → In g (live stops q o)
  live_has o g e h =
      subst (λ p. In g (live stops q p)) (sym e) (subst (In g) (sym (cond-true (alive stops q g) (g ∷ []) [] (true-alive g h))) (inl refl))

  cond-length : (t : Bool) (b : Label R) → length (cond t (b ∷ []) []) ≤ 1
  cond-length true b = omega arith
  cond-length false b = omega arith

  live-length : (o : Option (Label R)) → length (live stops q o) ≤ 1
  live-length None = omega arith
  live-length (Some b) = cond-length (alive stops q b) b

module _ {R : Type 0} (names : R → ℕ → Duty → Option Violation) (after : R → ℕ → Duty → R) (stops : List Stop) (q : ℕ) where
  -- a move from a with its entry in the trail
  abbrev Moves : ℕ → Label R → Duty → Label R → Type 0
  Moves j a x g = move names after stops q (entry j x) a x ≡ Some g

  lead_from : (f : ℕ) (a b : Label R) (row : R) (x : Duty) → lead stops q f a row x ≡ Some b → b.from ≡ f
  lead_from f a b row Rest e = ap (λ l. l.from) (sym (lead_rest stops q f a row b e).1)
  lead_from f a b row Drive e = ap (λ l. l.from) (sym (lead_drive stops q f a row b e).2)
  lead_from f a b row Work e =
      elim (lead_work stops q f a row b e).1 [
        | inl (l, same) ↦ ap (λ l. l.from) (sym same)
        | inr (l, m, same) ↦ ap (λ l. l.from) (sym same)
      ]

  pub move_from : (f : ℕ) (a b : Label R) (x : Duty) → move names after stops q f a x ≡ Some b → b.from ≡ f
  move_from f a b x e = lead_from f a b (after a.row q x) x (move_parts names after stops q f a b x e).1

  pub candidates_from : (j : ℕ) (a g : Label R) → In g (candidates names after stops q j a) → (x : Duty) × (move names after stops q (entry j x) a x ≡ Some g) × Alive stops (q + 1) g
  candidates_from j a g h =
      elim (in_cases g (live stops (q + 1) (move names after stops q (entry j Rest) a Rest)) (live stops (q + 1) (move names after stops q (entry j (second a)) a (second a))) h) [
        | inl l ↦ let (e, h) = live_from stops (q + 1) _ g l in (Rest, e, h)
        | inr l ↦ let (e, h) = live_from stops (q + 1) _ g l in (second a, e, h)
      ]

  -- work and driving are `second` where they lead anywhere
  second_is : (f : ℕ) (a b : Label R) (x : Duty) → move names after stops q f a x ≡ Some b → (x ≡ Rest) ⊎ (x ≡ second a)
  second_is f a b Rest e = inl refl
  second_is f a b Work e =
      let (r, ways) = lead_work stops q f a _ b (move_parts names after stops q f a b Work e).1 in
      inr (sym (cond-true (eqb a.drive 0) Work Drive (eq-eqb _ _ (ready_parts stops q a r).0)))
  second_is f a b Drive e =
      let (t, some, same) = lead_drive stops q f a _ b (move_parts names after stops q f a b Drive e).1 in
      inr (sym (cond-false (eqb a.drive 0) Work Drive (ne_eqb a.drive 0 (λ z. omega arith))))

  pub candidates_has : (j : ℕ) (a b : Label R) (x : Duty) → move names after stops q (entry j x) a x ≡ Some b → Alive stops (q + 1) b → In b (candidates names after stops q j a)
  candidates_has j a b x e h =
      elim (second_is (entry j x) a b x e) [
        | inl rest ↦ in_left b _ _ (live_has stops (q + 1) _ b (subst (λ y. Moves j a y b) rest e) h)
        | inr s ↦ in_right b _ _ (live_has stops (q + 1) _ b (subst (λ y. Moves j a y b) s e) h)
      ]

  pub layer_from : (j : ℕ) (F : List (Label R)) (g : Label R) → In g (layer names after stops q j F) → (i : ℕ) × (x : Duty) × (i < length F) × ((d : Label R) → move names after stops q (entry (j + i) x) (get_or F i d) x ≡ Some g) × Alive stops (q + 1) g
  layer_from j [] g h = absurd h
  layer_from j (a ∷ F) g h =
      elim (in_cases g (candidates names after stops q j a) (layer names after stops q (j + 1) F) h) [
        | inl l ↦
            let (x, e, live) = candidates_from j a g l in
            let z : j ≡ j + 0 = omega arith in
            (0, x, omega arith, λ d. subst (λ n. Moves n a x g) z e, live)
        | inr l ↦
            let (i, x, lt, e, live) = layer_from (j + 1) F g l in
            let z : j + 1 + i ≡ j + suc i = omega arith in
            (suc i, x, omega arith, λ d. subst (λ n. Moves n (get_or F i d) x g) z (e d), live)
      ]

  pub chosen_from : (F G : List (Label R)) → Subsequence G (layer names after stops q 0 F) → (j : ℕ) (d : Label R) → j < length G → (i : ℕ) × (x : Duty) × (i < length F) × (move names after stops q (entry i x) (get_or F i d) x ≡ Some (get_or G j d)) × Alive stops (q + 1) (get_or G j d)
  chosen_from F G chosen j d h =
      let g = get_or G j d in
      let there = subsequence-in g G (layer names after stops q 0 F) chosen (at_in In (λ x h. h) (λ x y ys h. h) (λ x y ys h. h) G j d h) in
      let (i, x, lt, e, live) = layer_from 0 F g there in
      let z : 0 + i ≡ i = omega arith in
      (i, x, lt, subst (λ n. Moves n (get_or F i d) x g) z (e d), live)

  pub layer_has : (j : ℕ) (F : List (Label R)) (i : ℕ) (d b : Label R) (x : Duty) → i < length F → move names after stops q (entry (j + i) x) (get_or F i d) x ≡ Some b → Alive stops (q + 1) b → In b (layer names after stops q j F)
  layer_has j [] i d b x lt e h = absurd (omega arith)
  layer_has j (a ∷ F) zero d b x lt e h =
      let z : j + 0 ≡ j = omega arith in
      in_left b _ _ (candidates_has j a b x (subst (λ n. Moves n a x b) z e) h)
  layer_has j (a ∷ F) (suc i) d b x lt e h =
      let z : j + suc i ≡ j + 1 + i = omega arith in
      in_right b (candidates names after stops q j a) _ (layer_has (j + 1) F i d b x (omega arith) (subst (λ n. Moves n (get_or F i d) x b) z e) h)

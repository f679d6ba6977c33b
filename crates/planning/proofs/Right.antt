-- The right labels of a quarter, and what of the next quarter's labels is right.
--   Right .. q F         F is a cover at q, and no label of F covers another of F
--   Kept .. q a x G      if the status x leads from a at q to a label that is alive, some label of G covers that
--   Made .. q F G        each label of G is alive and comes by a move at q from a label of F
--   right-needed         the number of right labels is the number needed
use Rattle.std.proofs.Common.{◌≡◌, ℕ, ◌+◌, ◌<◌, List, [], ◌∷◌, length, get_or, Some, Option, refl, subst}
use Rattle.std.proofs.lemmas.List.{get_or_default}
use Rattle.duty.specs.declared.Duty.{Duty}
use Rattle.rules.specs.declared.breach.Violation.{Violation}
use Rattle.rules.specs.Walk.{led}
use Rattle.planning.specs.declared.Label.{Label}
use Rattle.planning.specs.declared.Stop.{Stop}
use Rattle.planning.specs.Labels.{Alive, Covers, Cover, Needed}
use Rattle.planning.specs.Moves.{move}
use Rattle.planning.proofs.Leads.{from_now, move_again}
use Rattle.planning.proofs.Covering.{covers_trans, covers_from}
use Rattle.planning.proofs.Smallest.{Lone, smallest}

pub record Right {R : Type 0} (names : R → ℕ → Duty → Option Violation) (after : R → ℕ → Duty → R) (better : R → R → Type 0) (stops : List Stop) (start : R) (now q : ℕ) (F : List (Label R)) : Type 0 where
  pub cover : Cover names after better stops start now q F
  pub apart : Lone (Covers better stops) F

abbrev pub Kept : {R : Type 0} → (R → ℕ → Duty → Option Violation) → (R → ℕ → Duty → R) → (R → R → Type 0) → List Stop → ℕ → Label R → Duty → List (Label R) → Type 0
Kept {R} names after better stops q a x G =
    (f : ℕ) × ((b : Label R) → move names after stops q f a x ≡ Some b → Alive stops (q + 1) b → (k : ℕ) × (k < length G) × Covers better stops (get_or G k b) b)

abbrev pub Made : {R : Type 0} → (R → ℕ → Duty → Option Violation) → (R → ℕ → Duty → R) → List Stop → ℕ → List (Label R) → List (Label R) → Type 0
Made {R} names after stops q F G =
    (k : ℕ) (d : Label R) → k < length G → Alive stops (q + 1) (get_or G k d) × ((j : ℕ) × (f : ℕ) × (x : Duty) × (j < length F) × (move names after stops q f (get_or F j d) x ≡ Some (get_or G k d)))

-- it does not matter which `from` the move gives
pub kept-covers : {R : Type 0} (names : R → ℕ → Duty → Option Violation) (after : R → ℕ → Duty → R) (better : R → R → Type 0) (stops : List Stop) (q : ℕ) (a b : Label R) (x : Duty) (f : ℕ) (G : List (Label R)) → Kept names after better stops q a x G → move names after stops q f a x ≡ Some b → Alive stops (q + 1) b → (d : Label R) → (k : ℕ) × (k < length G) × Covers better stops (get_or G k d) b
kept-covers names after better stops q a b x f G (g, kept) e alive d =
    let c = from_now g b in
    let (k, in-G, over) = kept c (move_again names after stops q f g a b x e) alive in
    (k, in-G, covers_from better stops g (get_or G k d) b (subst (λ z. Covers better stops z c) (get_or_default G k c d in-G) over))

pub led_sound : {R : Type 0} (after : R → ℕ → Duty → R) (sound : R → Type 0) → ((s : R) (q : ℕ) (x : Duty) → sound s → sound (after s q x)) → (ls : List Duty) (s : R) (q : ℕ) → sound s → sound (led after s q ls)
led_sound after sound endures [] s q h = h
led_sound after sound endures (x ∷ ls) s q h = led_sound after sound endures ls (after s q x) (q + 1) (endures s q x h)

module _ {R : Type 0} (names : R → ℕ → Duty → Option Violation) (after : R → ℕ → Duty → R) (better : R → R → Type 0) (stops : List Stop) (start : R) (now : ℕ) where
  -- each label of a cover is covered by another cover, at any default
  covered : (q : ℕ) (F G : List (Label R)) → Cover names after better stops start now q F → Cover names after better stops start now q G → (i : ℕ) (d : Label R) → i < length G → (k : ℕ) × (k < length F) × Covers better stops (get_or F k d) (get_or G i d)
  covered q F G f g i d h =
      let (alive, r) = g.each i d h in
      let (k, in-F, c) = f.all (get_or G i d) alive r in
      (k, in-F, subst (λ x. Covers better stops x (get_or G i d)) (get_or_default F k (get_or G i d) d in-F) c)

  pub right-needed : ((s t u : R) → better s t → better t u → better s u) → (q : ℕ) (F : List (Label R)) → Right names after better stops start now q F → Needed names after better stops start now q (length F)
  right-needed transitive q F r = record {
    labels = F;
    size = refl;
    cover = r.cover;
    least = λ others c. smallest (Covers better stops) (covers_trans better stops transitive) F others r.apart (covered q others F c r.cover) (covered q F others r.cover c);
  }

-- The turns of the search: `labels` are those of a quarter, which stand in the first places of a slice.
use Rattle.std.proofs.Common.{◌≡◌, ℕ, ◌+◌, ◌*◌, ◌<◌, ◌≤◌, Bool, true, false, cond, List, [], ◌∷◌, length, get_or, Option, sym, refl, ◌∙◌, subst}
use Rattle.std.proofs.lemmas.Bool.{cond-true, cond-false}
use Rattle.duty.specs.declared.Duty.{Duty}
use Rattle.rules.specs.declared.breach.Violation.{Violation}
use Rattle.frontier.specs.Cover.{SmallestCover}
use Rattle.planning.specs.declared.Label.{Label}
use Rattle.planning.specs.declared.Stop.{Stop}
use Rattle.planning.specs.Moves.{label_at, serves_all}
use Rattle.planning.specs.Plain.{Plainly}
use Rattle.planning.proofs.Laws.{Setting}
use Rattle.planner.specs.Candidates.{alive, layer}
use Rattle.planner.specs.Finding.{Fails}
use Rattle.planner.specs.Outcome.{Ends, NoneEnds, Crowds}
use Rattle.planner.proofs.Going.{Going, going-alive, going_dead, going_sound, going-ends, going-last, going-crowded, going_next}
use Rattle.planner.proofs.Layers.{alive-true, alive-false}

module _ {R : Type 0} {names : R → ℕ → Duty → Option Violation} {after : R → ℕ → Duty → R} {better : R → R → Type 0} {sound : R → Type 0} {stops : List Stop} {start : R} (set : Setting names after better sound stops start) (now k : ℕ) where
  pub turn_first : (trail : List ℕ) (F : List (Label R)) → 1 ≤ k → F ≡ cond (alive stops now (label_at stops 0 0 start)) (label_at stops 0 0 start ∷ []) [] → Going names after better stops start now k trail F 0
  turn_first trail F some placed = go (alive stops now (label_at stops 0 0 start)) refl
    where
      go : (b : Bool) → alive stops now (label_at stops 0 0 start) ≡ b → Going names after better stops start now k trail F 0
      go true e =
          subst (λ G. Going names after better stops start now k trail G 0) (sym (placed ∙ cond-true _ _ _ e))
          (going-alive set now k trail 0 some (alive-true stops now (label_at stops 0 0 start) e))
      go false e =
          subst (λ G. Going names after better stops start now k trail G 0) (sym (placed ∙ cond-false _ _ _ e))
          (going_dead set now k trail 0 (alive-false stops now (label_at stops 0 0 start) e))

  module _ {trail : List ℕ} {F : List (Label R)} {t : ℕ} (going : Going names after better stops start now k trail F t) (labels : List (Label R)) (same : labels ≡ F) where
    here : Going names after better stops start now k trail labels t
    here = subst (λ G. Going names after better stops start now k trail G t) (sym same) going

    pub turn_sound : (j : ℕ) (d : Label R) → j < length labels → sound (get_or labels j d).row
    turn_sound = going_sound set now k here

    pub turn_ends : (q span j : ℕ) → q ≡ now + t → t < span → j < length labels → ((d : Label R) → serves_all names stops q (get_or labels j d) ≡ true) → Ends names after better stops start now k span trail t j
    turn_ends q span j is lt below serves =
        let d : Label R = label_at stops 0 0 start in
        going-ends set now k here span j d lt below (subst (λ n. serves_all names stops n (get_or labels j d) ≡ true) is (serves d))

    module _ (q : ℕ) (is : q ≡ now + t) (early : now + t < 2688) (fails : Fails (serves_all names stops q) labels (length labels)) where
      none : (j : ℕ) (d : Label R) → j < length labels → serves_all names stops (now + t) (get_or labels j d) ≡ false
      none j d lt = subst (λ n. serves_all names stops n (get_or labels j d) ≡ false) is (fails j d lt)

      pub turn_last : NoneEnds names after better stops start now k (t + 1)
      turn_last = going-last set now k here early none

      module _ (next : List (Label R)) (cover : SmallestCover (Plainly better) next (layer names after stops q 0 labels)) where
        then : SmallestCover (Plainly better) next (layer names after stops (now + t) 0 labels)
        then = subst (λ n. SmallestCover (Plainly better) next (layer names after stops n 0 labels)) is cover

        pub turn_crowded : (span : ℕ) → k < length next → t + 1 < span → Crowds names after better stops start now k span
        turn_crowded = going-crowded set now k here early none next then

        pub turn_next : length next ≤ k → (F' : List (Label R)) → F' ≡ next → (trail' : List ℕ) → ((i : ℕ) → i < t * k → get_or trail' i 0 ≡ get_or trail i 0) → ((j : ℕ) (d : Label R) → j < length next → get_or trail' (t * k + j) 0 ≡ (get_or next j d).from) → Going names after better stops start now k trail' F' (t + 1)
        turn_next few F' kept trail' before noted =
            subst (λ G. Going names after better stops start now k trail' G (t + 1)) (sym kept)
            (going_next set now k here early none next then few trail' before noted)

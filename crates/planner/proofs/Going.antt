-- The invariant of the search's loop, and what it shows when the loop ends, in a setting (planning's proofs/Laws.antt).
--   Going .. k trail F t      F are the right labels of the quarter now + t, at most k; the trail leads back from each of them;
--                             no letters have served the tour yet; and at no earlier quarter were more than k labels needed
--   going-alive, going_dead   at the start, whatever the trail
--   going_sound               the row of each label is sound
--   going_next                one quarter on, where none of the labels serves the tour and the smallest cover is no more than k
--   going-crowded             that cover is more than k
--   going-ends, going-last    a label serves the tour at its last work; or none does, and the time is over
use Rattle.std.proofs.Common.{◌≡◌, ℕ, suc, ◌+◌, ◌*◌, ◌<◌, ◌≤◌, true, false, List, [], ◌∷◌, ◌++◌, length, get_or, Some, Option, sym, refl, ap, ◌∙◌, subst, inl, inr, arith}
use Rattle.std.proofs.lemmas.Bool.{cases_lt}
use Rattle.duty.specs.declared.Duty.{Duty}
use Rattle.rules.specs.declared.breach.Violation.{Violation}
use Rattle.frontier.specs.Lists.{In}
use Rattle.frontier.specs.Cover.{Apart, SmallestCover}
use Rattle.planning.specs.declared.Label.{Label}
use Rattle.planning.specs.declared.Stop.{Stop}
use Rattle.planning.specs.Labels.{Alive, Covers, Reached}
use Rattle.planning.specs.Moves.{label_at, move, serves_all}
use Rattle.planning.specs.Plain.{Plainly}
use Rattle.planning.proofs.Starts.{Sensible, start_reached, reached-sensible}
use Rattle.planning.proofs.Smallest.{Lone}
use Rattle.planning.proofs.Members.{covered-at, apart-lone}
use Rattle.planning.proofs.Right.{Right, Made, Kept}
use Rattle.planning.proofs.Laws.{Setting}
use Rattle.planning.proofs.Search.{append, finish, plain_covers, covers_plain, reached_sound, start_dead, start_alive, next_right, needed-right, no_end_now, no_end_next}
use Rattle.planner.specs.Trail.{entry, Path}
use Rattle.planner.specs.Candidates.{layer}
use Rattle.planner.specs.Outcome.{Unended, Few, Ends, NoneEnds, Crowds}
use Rattle.planner.proofs.Layers.{move_from, layer_has, chosen_from}
use Rattle.planner.proofs.Paths.{path-length, path_keep, path_more}

pub record Going {R : Type 0} (names : R → ℕ → Duty → Option Violation) (after : R → ℕ → Duty → R) (better : R → R → Type 0) (stops : List Stop) (start : R) (now k : ℕ) (trail : List ℕ) (F : List (Label R)) (t : ℕ) : Type 0 where
  pub few : length F ≤ k
  pub right : Right names after better stops start now (now + t) F
  pub paths : (j : ℕ) (d : Label R) → j < length F → (ls : List Duty) × Path trail k t j ls × Reached names after stops start now ls (get_or F j d)
  pub unended : Unended names after stops start now (now + t)
  pub needs : (u : ℕ) → u < t → Few names after better stops start now k (now + u)

module _ {R : Type 0} {names : R → ℕ → Duty → Option Violation} {after : R → ℕ → Duty → R} {better : R → R → Type 0} {sound : R → Type 0} {stops : List Stop} {start : R} (set : Setting names after better sound stops start) (now k : ℕ) where
  abbrev RightAt : ℕ → List (Label R) → Type 0
  RightAt = Right names after better stops start now

  unended_now : Unended names after stops start now (now + 0)
  unended_now ls allowed serves h = no_end_now set now ls allowed serves (omega arith)

  pub going-alive : (trail : List ℕ) (f : ℕ) → 1 ≤ k → Alive stops now (label_at stops 0 f start) → Going names after better stops start now k trail (label_at stops 0 f start ∷ []) 0
  going-alive trail f room alive =
      let first = label_at stops 0 f start in
      let here : now ≡ now + 0 = omega arith in
      record {
        few = omega arith;
        right = subst (λ q. RightAt q (first ∷ [])) here (start_alive set now f alive);
        paths = λ j d h.
            let z : 0 ≡ j = omega arith in
            ([], refl, subst (λ i. Reached names after stops start now [] (get_or (first ∷ []) i d)) z (start_reached names after stops start now set.serviced f set.some-stop));
        unended = unended_now;
        needs = λ u h. absurd (omega arith);
      }

  pub going_dead : (trail : List ℕ) (f : ℕ) → (Alive stops now (label_at stops 0 f start) → ⊥) → Going names after better stops start now k trail [] 0
  going_dead trail f dead =
      let here : now ≡ now + 0 = omega arith in
      record {
        few = omega arith;
        right = subst (λ q. RightAt q []) here (start_dead set now f dead);
        paths = λ j d h. absurd (omega arith);
        unended = unended_now;
        needs = λ u h. absurd (omega arith);
      }

  module _ {trail : List ℕ} {F : List (Label R)} {t : ℕ} (going : Going names after better stops start now k trail F t) where
    pub going_sound : (j : ℕ) (d : Label R) → j < length F → sound (get_or F j d).row
    going_sound j d h =
        let (ls, p, r) = going.paths j d h in
        reached_sound set now ls (get_or F j d) r

    -- as many as F's labels are needed now, and no more than k were needed before
    needs_now : (u : ℕ) → u < t + 1 → Few names after better stops start now k (now + u)
    needs_now u h =
        elim (cases_lt u t) [
          | inl lt ↦ going.needs u lt
          | inr ge ↦
              let z : t ≡ u = omega arith in
              subst (λ v. Few names after better stops start now k (now + v)) z
              (length F, needed-right set now (now + t) F going.right, going.few)
        ]

    pub going-ends : (span j : ℕ) (d : Label R) → t < span → j < length F → serves_all names stops (now + t) (get_or F j d) ≡ true → Ends names after better stops start now k span trail t j
    going-ends span j d within h last =
        let (ls, p, r) = going.paths j d h in
        let there : now + t ≡ now + length ls = ap (λ n. now + n) (sym (path-length trail k t j ls p)) in
        let (allowed, serves) = finish names after stops start now set.serviced ls (get_or F j d) r (subst (λ q. serves_all names stops q (get_or F j d) ≡ true) there last) in
        record {
          within = within;
          place = omega (arith, going.few);
          letters = ls;
          path = p;
          allowed = allowed;
          serves = serves;
          first = going.unended;
          few = λ u h. needs_now u (omega arith);
        }

    module _ (early : now + t < 2688) (none : (j : ℕ) (d : Label R) → j < length F → serves_all names stops (now + t) (get_or F j d) ≡ false) where
      unended_next : Unended names after stops start now (now + (t + 1))
      unended_next ls allowed serves h =
          elim (cases_lt (now + t) (now + length ls)) [
            | inl lt ↦ no_end_next set now (now + t) early F going.right none ls allowed serves (omega arith)
            | inr ge ↦ going.unended ls allowed serves ge
          ]

      pub going-last : NoneEnds names after better stops start now k (t + 1)
      going-last = record { none = unended_next; few = needs_now }

      module _ (G : List (Label R)) (cover : SmallestCover (Plainly better) G (layer names after stops (now + t) 0 F)) where
        -- the label of F that a label of G came from, by which status, and the letters that lead there
        comes : (j : ℕ) (d : Label R) → j < length G → (i : ℕ) × (x : Duty) × (ls : List Duty) × (i < length F) × (move names after stops (now + t) (entry i x) (get_or F i d) x ≡ Some (get_or G j d)) × Alive stops (now + t + 1) (get_or G j d) × Path trail k t i ls × Reached names after stops start now (ls ++ x ∷ []) (get_or G j d)
        comes j d h =
            let (i, x, lt, e, alive) = chosen_from names after stops (now + t) F G cover.arrival j d h in
            let (ls, p, r) = going.paths i d lt in
            let there : now + t ≡ now + length ls = ap (λ n. now + n) (sym (path-length trail k t i ls p)) in
            let m = subst (λ q. move names after stops q (entry i x) (get_or F i d) x ≡ Some (get_or G j d)) there e in
            (i, x, ls, lt, e, alive, p, append names after stops start now set.serviced ls (get_or F i d) (get_or G j d) (entry i x) x r m)

        made : Made names after stops (now + t) F G
        made j d h = let (i, x, ls, lt, e, alive, p, r) = comes j d h in (alive, (i, entry i x, x, lt, e))

        kept : (j : ℕ) (d : Label R) (x : Duty) → j < length F → Kept names after better stops (now + t) (get_or F j d) x G
        kept j d x h = (
          entry (0 + j) x,
          λ b e alive.
              let c = cover.cover b (layer_has names after stops (now + t) 0 F j d b x h e alive) in
              let (i, lt, p) = covered-at In (λ x h. h) (λ x y ys h. h) (λ x y ys h. h) (Plainly better) G b c b in
              (i, lt, plain_covers better stops (get_or G i b) b p),
        )

        sensible : (j : ℕ) (d : Label R) → j < length G → Sensible stops (get_or G j d)
        sensible j d h =
            let (i, x, ls, lt, e, alive, p, r) = comes j d h in
            reached-sensible names after stops start now set.serviced (ls ++ x ∷ []) (get_or G j d) r

        apart : Lone (Covers better stops) G
        apart i j d hi hj differ c =
            apart-lone In (λ x h. h) (λ x y ys h. h) (λ x y ys h. h) (Plainly better) (Apart (Plainly better)) (λ x xs p. p) G cover.apart i j d hi hj differ (covers_plain better stops (get_or G i d) (get_or G j d) (sensible i d hi) (sensible j d hj) c)

        right_next : Right names after better stops start now (now + (t + 1)) G
        right_next =
            let there : now + t + 1 ≡ now + (t + 1) = omega arith in
            subst (λ q. RightAt q G) there (next_right set now (now + t) (omega arith) early F G going.right made kept apart)

        pub going-crowded : (span : ℕ) → k < length G → t + 1 < span → Crowds names after better stops start now k span
        going-crowded span more within = record {
          at = t + 1;
          within = within;
          unended = unended_next;
          number = length G;
          needed = needed-right set now (now + (t + 1)) G right_next;
          more = more;
        }

        pub going_next : length G ≤ k → (trail' : List ℕ) → ((i : ℕ) → i < t * k → get_or trail' i 0 ≡ get_or trail i 0) → ((j : ℕ) (d : Label R) → j < length G → get_or trail' (t * k + j) 0 ≡ (get_or G j d).from) → Going names after better stops start now k trail' G (t + 1)
        going_next room trail' same new = record {
          few = room;
          right = right_next;
          paths = λ j d h.
              let (i, x, ls, lt, e, alive, p, r) = comes j d h in
              let place : i < k = omega (arith, going.few) in
              let noted : get_or trail' (t * k + j) 0 ≡ entry i x = new j d h ∙ move_from names after stops (now + t) (entry i x) (get_or F i d) (get_or G j d) x e in
              let one : suc t ≡ t + 1 = omega arith in
              (ls ++ x ∷ [], subst (λ n. Path trail' k n j (ls ++ x ∷ [])) one (path_more trail' k t i j x ls place noted (path_keep trail trail' k t i ls same place p)), r);
          unended = unended_next;
          needs = needs_now;
        }

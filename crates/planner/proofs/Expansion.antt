-- A layer of candidates that grows by one label, and a frontier that is offered them. Assumes nothing.
use Rattle.std.proofs.Common.{◌≡◌, ℕ, ◌+◌, ◌*◌, ◌<◌, ◌≤◌, List, [], ◌∷◌, ◌++◌, length, get_or, take, Option, sym, refl, ap, ◌∙◌, subst, arith}
use Rattle.std.proofs.lemmas.List.{append_assoc, append-nil, take_all, take_more, length-take-le}
use Rattle.frontier.specs.Cover.{SmallestCover}
use Rattle.frontier.specs.Places.{all, kept}
use Rattle.frontier.specs.declared.container.Frontier.{Frontier}
use Rattle.duty.specs.declared.Duty.{Duty}
use Rattle.duty.specs.declared.Duty.TheVariants.{Rest}
use Rattle.rules.specs.declared.breach.Violation.{Violation}
use Rattle.planning.specs.declared.Label.{Label}
use Rattle.planning.specs.declared.Stop.{Stop}
use Rattle.planning.specs.Moves.{move}
use Rattle.planning.specs.Plain.{Plainly}
use Rattle.planner.specs.Candidates.{live, second, candidates, layer}
use Rattle.planner.specs.Trail.{entry}
use Rattle.frontier.proofs.Fronts.{front as front_of}

-- f keeps a smallest cover of the candidates of the first j labels, at most two a label
pub record Expanded {R : Type 0} (names : R → ℕ → Duty → Option Violation) (after : R → ℕ → Duty → R) (better : R → R → Type 0) (stops : List Stop) (q : ℕ) (front : List (Label R)) (places : ℕ) (f : Frontier (Label R)) (j : ℕ) : Type 0 where
  pub smallest : SmallestCover (Plainly better) (kept f) (layer names after stops q 0 (take j front))
  pub few : length (kept f) ≤ 2 * j
  pub long : length (all f) ≡ places

module _ {R : Type 0} (names : R → ℕ → Duty → Option Violation) (after : R → ℕ → Duty → R) (stops : List Stop) (q : ℕ) where
  layer-push : (j : ℕ) (labels : List (Label R)) (a : Label R)
      → layer names after stops q j (labels ++ (a ∷ [])) ≡ layer names after stops q j labels ++ candidates names after stops q (j + length labels) a
  layer-push j [] a =
      append-nil (candidates names after stops q j a) ∙ ap (λ i. candidates names after stops q i a) (omega arith)
  layer-push j (b ∷ labels) a =
      ap (λ l. candidates names after stops q j b ++ l)
      (layer-push (j + 1) labels a ∙ ap (λ i. layer names after stops q (j + 1) labels ++ candidates names after stops q i a) (omega arith))
      ∙ sym (append_assoc (candidates names after stops q j b) (layer names after stops q (j + 1) labels) _)

  pub layer_more : (front : List (Label R)) (j : ℕ) (d : Label R) → j < length front
      → layer names after stops q 0 (take (j + 1) front) ≡ layer names after stops q 0 (take j front) ++ candidates names after stops q j (get_or front j d)
  layer_more front j d within =
      ap (layer names after stops q 0) (take_more front j d within)
      ∙ layer-push 0 (take j front) (get_or front j d)
      ∙ ap (λ i. layer names after stops q 0 (take j front) ++ candidates names after stops q i (get_or front j d)) (omega (arith, length-take-le j front (omega arith)))

  module _ (better : R → R → Type 0) (front : List (Label R)) (places : ℕ) where
    -- one label more, by rest and by its second status
    pub expanded_more : (f g h : Frontier (Label R)) (j : ℕ) (a : Label R) (n m : ℕ) (x : Duty) (rested moved : Option (Label R))
        → Expanded names after better stops q front places f j → j < length front → a ≡ get_or front j a
        → n ≡ entry j Rest → rested ≡ move names after stops q n a Rest
        → x ≡ second a → m ≡ entry j x → moved ≡ move names after stops q m a x
        → ((seen : List (Label R)) → SmallestCover (Plainly better) (kept f) seen → SmallestCover (Plainly better) (kept g) (seen ++ live stops (q + 1) rested))
        → length (kept g) ≤ length (kept f) + 1 → length (all g) ≡ length (all f)
        → ((seen : List (Label R)) → SmallestCover (Plainly better) (kept g) seen → SmallestCover (Plainly better) (kept h) (seen ++ live stops (q + 1) moved))
        → length (kept h) ≤ length (kept g) + 1 → length (all h) ≡ length (all g)
        → Expanded names after better stops q front places h (j + 1)
    expanded_more f g h j a n m x rested moved e within read n-is rested-is x-is m-is moved-is first more room then more-then room-then =
        let seen : List (Label R) = layer names after stops q 0 (take j front) in
        let by-rest : rested ≡ move names after stops q (entry j Rest) a Rest =
        rested-is ∙ ap (λ k. move names after stops q k a Rest) n-is in
        let by-second : moved ≡ move names after stops q (entry j (second a)) a (second a) =
        moved-is ∙ ap (λ k. move names after stops q k a x) m-is ∙ ap (λ y. move names after stops q (entry j y) a y) x-is in
        let grown : (seen ++ live stops (q + 1) rested) ++ live stops (q + 1) moved ≡ layer names after stops q 0 (take (j + 1) front) =
        append_assoc seen (live stops (q + 1) rested) (live stops (q + 1) moved)
        ∙ ap (λ l. seen ++ (live stops (q + 1) l ++ live stops (q + 1) moved)) by-rest
        ∙ ap (λ l. seen ++ (live stops (q + 1) (move names after stops q (entry j Rest) a Rest) ++ live stops (q + 1) l)) by-second
        ∙ ap (λ b. seen ++ candidates names after stops q j b) read
        ∙ sym (layer_more front j a within) in
        record {
          smallest = subst (SmallestCover (Plainly better) (kept h)) grown (then (seen ++ live stops (q + 1) rested) (first seen e.smallest));
          few = omega (arith, e.few);
          long = room-then ∙ room ∙ e.long;
        }

    -- what is left at the front of the places
    pub expanded-all : (f : Frontier (Label R)) (j count n : ℕ) (labels : List (Label R))
        → Expanded names after better stops q front places f j → j ≡ count → n ≡ length (kept f) → labels ≡ take n (all f)
        → SmallestCover (Plainly better) labels (layer names after stops q 0 (take count front))
    expanded-all f j count n labels e end is first =
        subst (λ k. SmallestCover (Plainly better) labels (layer names after stops q 0 (take k front))) end
        (subst (λ l. SmallestCover (Plainly better) l (layer names after stops q 0 (take j front))) (sym (first ∙ front_of f (all f) n is refl)) e.smallest)

    -- the same of the whole layer
    pub expanded-whole : (f : Frontier (Label R)) (j n : ℕ) (labels : List (Label R))
        → Expanded names after better stops q front places f j → j ≡ length front → n ≡ length (kept f) → labels ≡ take n (all f)
        → SmallestCover (Plainly better) labels (layer names after stops q 0 front)
    expanded-whole f j n labels e end is first =
        subst (λ l. SmallestCover (Plainly better) labels (layer names after stops q 0 l)) (take_all j front (omega arith)) (expanded-all f j j n labels e refl is first)

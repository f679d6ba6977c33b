-- A pile of books that keeps just the sentences of its layers: made of its bottom book, a layer at a time.
use Rattle.std.proofs.Common.{ℕ, ◌+◌, ◌<◌, List, [], ◌∷◌, ◌++◌, map, length, Option, sym, ap, subst, inl, inr}
use Rattle.duty.specs.declared.Duty.{Duty}
use Rattle.rules.specs.declared.breach.Violation.{Violation}
use Rattle.rules.specs.Walk.{Allowed}
use Rattle.rules.specs.Piling.{both_name, both_move}
use Rattle.rules.specs.LayersLemmas.{allowed-both}
use Rattle.books.specs.Sentences.{Rule}
use Rattle.books.specs.Sets.{placed, Among, Lawful}
use Rattle.books.specs.Broken.{placed-push}
use Rattle.books.specs.Tied.{Tied, tied-layer, lawful-allowed}

-- a rule of a list that stands before or behind others is among all
among-left : (x : ℕ × Rule) (xs ys : List (ℕ × Rule)) → Among x xs → Among x (xs ++ ys)
among-left x [] ys a = absurd a
among-left x (y ∷ xs) ys (inl e) = inl e
among-left x (y ∷ xs) ys (inr a) = inr (among-left x xs ys a)

among-right : (x : ℕ × Rule) (xs ys : List (ℕ × Rule)) → Among x ys → Among x (xs ++ ys)
among-right x [] ys a = a
among-right x (y ∷ xs) ys a = inr (among-right x xs ys a)

-- the rules of a layer, counted as another
among-moved : (n layer : ℕ) (rule : Rule) (own : List Rule) → Among {X = ℕ × Rule} (layer, rule) (map (λ r. (1, r)) own ++ []) → Among {X = ℕ × Rule} (n, rule) (map (λ r. (n, r)) own)
among-moved n layer rule [] a = a
among-moved n layer rule (r ∷ own) (inl e) = inl (ap (λ p. (n, p.1)) e)
among-moved n layer rule (r ∷ own) (inr a) = inr (among-moved n layer rule own a)

-- what keeps a set with a layer on top keeps the set, and the layer alone
lawful_parts : (set : List (List Rule)) (own : List Rule) (l : List Duty) → Lawful (set ++ own ∷ []) l → Lawful set l × Lawful (own ∷ []) l
lawful_parts set own l h =
    let place = sym (placed-push 1 set own) in (
      λ q lt layer rule a. h q lt layer rule (subst (Among {X = ℕ × Rule} (layer, rule)) place (among-left (layer, rule) (placed 1 set) _ a)),
      λ q lt layer rule a. h q lt (length set + 1) rule (subst (Among {X = ℕ × Rule} (length set + 1, rule)) place (among-right (length set + 1, rule) (placed 1 set) _ (among-moved (length set + 1) layer rule own a))),
    )

-- the pile is tied to the set, and its books find lawful just what keeps the set
pub record Piled {S : Type 0} (names : S → ℕ → Duty → Option Violation) (after : S → ℕ → Duty → S) (opened : S) (set : List (List Rule)) (lawful : List Duty → Type 0) : Type 0 where
  pub tied : Tied names after opened set
  pub allowed : (l : List Duty) → lawful l → Allowed names after opened 0 l
  pub found : (l : List Duty) → Lawful set l → lawful l

pub bottom : {S : Type 0} (names : S → ℕ → Duty → Option Violation) (after : S → ℕ → Duty → S) (opened : S) (own : List Rule) → Tied names after opened (own ∷ []) → Piled names after opened (own ∷ []) (Lawful (own ∷ []))
bottom names after opened own tied = record { tied = tied; allowed = lawful-allowed names after opened (own ∷ []) tied; found = λ l h. h }

pub over : {O U : Type 0} (nu : O → ℕ → Duty → Option Violation) (au : O → ℕ → Duty → O) (ou : O) (own : List Rule) → Tied nu au ou (own ∷ []) → (nl : U → ℕ → Duty → Option Violation) (al : U → ℕ → Duty → U) (ol : U) (set : List (List Rule)) (lawful : List Duty → Type 0) → Piled nl al ol set lawful → length set < 255 → Piled (both_name nu au nl al (length set)) (both_move nu au nl al (length set)) (record { own = ou; below = ol }) (set ++ own ∷ []) (λ l. lawful l × Lawful (own ∷ []) l)
over nu au ou own up nl al ol set lawful low few = record {
  tied = tied-layer nu au ou own up nl al ol set low.tied few;
  allowed = λ l h. allowed-both nu au nl al (length set) l (record { own = ou; below = ol }) 0 (low.allowed l h.0) (lawful-allowed nu au ou (own ∷ []) up l h.1);
  found = λ l h. let parts = lawful_parts set own l h in (low.found l parts.0, parts.1);
}

-- How many of some statuses have p, in a list made of others; and lists cut before their last status.
--   Ends ls              ls is empty or ends in some element
--   works_push           one quarter of work more is one at the end
--   push-append          where one list is cut before its last element, so is the other
use Rattle.std.proofs.Common.{◌≡◌, ℕ, suc, ◌+◌, Bool, cond, ◌⊎◌, List, [], ◌∷◌, ◌++◌, length, replicate, sym, refl, ap, ◌∙◌, inl, inr, add-one, arith}
use Rattle.std.proofs.lemmas.List.{append_assoc, length_push, replicate_more, same_from_push}
use Rattle.duty.specs.declared.Duty.{Duty}
use Rattle.duty.specs.declared.Duty.TheVariants.{Work}
use Rattle.planning.specs.Serving.{tally}

module _ (p : Duty → Bool) where
  tally-append : (xs ys : List Duty) → tally p (xs ++ ys) ≡ tally p xs + tally p ys
  tally-append [] ys = omega arith
  tally-append (x ∷ xs) ys = omega (arith, tally-append xs ys)

  pub tally-push : (xs : List Duty) (x : Duty) → tally p (xs ++ x ∷ []) ≡ tally p xs + cond (p x) 1 0
  tally-push xs x = omega (arith, tally-append xs (x ∷ []))

replicate-push : {X : Type 0} (n : ℕ) (y : X) → replicate (suc n) y ≡ replicate n y ++ y ∷ []
replicate-push n y = ap (λ m. replicate m y) (sym (add-one n)) ∙ sym (replicate_more n y)

-- the last of some repeated statuses, after others
pub works_push : (xs : List Duty) (n : ℕ) → xs ++ replicate (suc n) Work ≡ (xs ++ replicate n Work) ++ Work ∷ []
works_push xs n =
    ap (λ ys. xs ++ ys) (replicate-push n Work) ∙ sym (append_assoc xs (replicate n Work) (Work ∷ []))

pub push_not_nil : {X : Type 0} (xs : List X) (x : X) → xs ++ x ∷ [] ≡ [] → ⊥
push_not_nil xs x e = omega (arith, length_push xs x, ap length e)

-- a list is empty or ends in some element
abbrev pub Ends : {X : Type 0} → List X → Type 0
Ends {X} ls = (ls ≡ []) ⊎ ((front : List X) × (x : X) × (ls ≡ front ++ x ∷ []))

pub ends : {X : Type 0} (ls : List X) → Ends ls
ends [] = inl refl
ends (y ∷ ls) =
    inr (elim (ends ls) [ inl e ↦ ([], y, ap (λ t. y ∷ t) e) | inr h ↦ (y ∷ h.0, h.1, ap (λ t. y ∷ t) h.2) ])

-- a list that ends in x ends in the last element of its second part
pub push-append : {X : Type 0} (ls xs ys : List X) (x y : X) → ls ++ x ∷ [] ≡ xs ++ (ys ++ y ∷ []) → (ls ≡ xs ++ ys) × (x ≡ y)
push-append ls xs ys x y e = same_from_push ls (xs ++ ys) x y (e ∙ sym (append_assoc xs ys (y ∷ [])))

-- Whether rules stand in the order of their layers and numbers, by computation.
use Rattle.std.proofs.Common.{◌≡◌, ℕ, Bool, true, not, ◌&&◌, ◌||◌, eqb, ltb, List, [], ◌∷◌, subst, inl, inr}
use Rattle.std.proofs.lemmas.Bool.{and_parts, both_ways, not-true, or_left, or_right, and_from, lt-ltb, eq-eqb}
use Rattle.books.specs.Sentences.{Rule, rule_number}
use Rattle.books.specs.Sets.{Among, Lower}
use Rattle.books.specs.Broken.{Sorted}

abbrev lower : ℕ × Rule → ℕ × Rule → Bool
lower x y = ltb x.0 y.0 || (eqb x.0 y.0 && ltb (rule_number x.1) (rule_number y.1))

lower_test : (x y : ℕ × Rule) → Lower x.0 (rule_number x.1) y.0 (rule_number y.1) → lower x y ≡ true
lower_test x y (inl h) = or_left _ _ (lt-ltb x.0 y.0 h)
lower_test x y (inr h) =
    or_right (ltb x.0 y.0) _ (and_from _ _ (eq-eqb x.0 y.0 h.0) (lt-ltb (rule_number x.1) (rule_number y.1) h.1))

-- none of the list is lower than x
abbrev before_all : ℕ × Rule → List (ℕ × Rule) → Bool
before_all x [] = true
before_all x (y ∷ ys) = not (lower y x) && before_all x ys

before-none : (x : ℕ × Rule) (ys : List (ℕ × Rule)) → before_all x ys ≡ true → (layer : ℕ) (rule : Rule) → Among (layer, rule) ys → Lower layer (rule_number rule) x.0 (rule_number x.1) → ⊥
before-none x [] e layer rule a low = a
before-none x (y ∷ ys) e layer rule (inl a) low =
    both_ways (lower y x) (not-true _ (and_parts _ _ e).0) (subst (λ z. lower z x ≡ true) a (lower_test (layer, rule) x low))
before-none x (y ∷ ys) e layer rule (inr a) low = before-none x ys (and_parts _ _ e).1 layer rule a low

abbrev pub ascends : List (ℕ × Rule) → Bool
ascends [] = true
ascends (x ∷ xs) = before_all x xs && ascends xs

pub ascending_sorted : (xs : List (ℕ × Rule)) → ascends xs ≡ true → Sorted xs
ascending_sorted [] e = tt
ascending_sorted (x ∷ xs) e = (before-none x xs (and_parts _ _ e).0, ascending_sorted xs (and_parts _ _ e).1)

-- The first broken rule of a list: what a book names at a quarter, in the words of the sentences.
--   FirstBroken xs l q o    o names the first rule of xs that quarter q breaks, or nothing where it keeps them all
use Rattle.std.specs.Prelude.{◌≡◌, ℕ, ◌+◌, ◌<◌, min, Bool, true, false, cond, ◌⊎◌, List, [], ◌∷◌, ◌++◌, map, length, Some, None, Option, refl}
use Rattle.std.proofs.Common.{inl, inr, sym, ap, subst, ◌∙◌, arith}
use Rattle.std.proofs.lemmas.List.{append-nil, append_assoc}
use Rattle.duty.specs.declared.Duty.{Duty}
use Rattle.rules.specs.declared.breach.Violation.{Violation}
use Rattle.rules.specs.Layers.{raised, first_named}
use Rattle.rules.specs.LayersLemmas.{some-none}
use Rattle.books.specs.Sentences.{Rule, rule_number, Keeps}
use Rattle.books.specs.Sets.{placed, Among, Lower}

abbrev pub named : ℕ × Rule → Violation
named x = record { rule = rule_number x.1; layer = x.0 }

abbrev pub FirstBroken : List (ℕ × Rule) → List Duty → ℕ → Option Violation → Type 0
FirstBroken [] l q o = o ≡ None
FirstBroken (x ∷ xs) l q o = (Keeps x.1 l q × FirstBroken xs l q o) ⊎ ((Keeps x.1 l q → ⊥) × (o ≡ Some (named x)))

-- the rules stand in the order of their layers and numbers
abbrev pub Sorted : List (ℕ × Rule) → Type 0
Sorted [] = Unit {0}
Sorted (x ∷ xs) = ((layer : ℕ) (rule : Rule) → Among (layer, rule) xs → Lower layer (rule_number rule) x.0 (rule_number x.1) → ⊥) × Sorted xs

some_same : (v w : Violation) → Some v ≡ Some w → v ≡ w
some_same v w e = cc

not_lower : (x : ℕ × Rule) (xs : List (ℕ × Rule)) → ((layer : ℕ) (rule : Rule) → Among (layer, rule) xs → Lower layer (rule_number rule) x.0 (rule_number x.1) → ⊥) → (layer : ℕ) (rule : Rule) → Among (layer, rule) (x ∷ xs) → Lower layer (rule_number rule) x.0 (rule_number x.1) → ⊥
not_lower x xs s layer rule (inl a) (inl low) = let e : layer ≡ x.0 = ap (λ y. y.0) a in omega arith
not_lower x xs s layer rule (inl a) (inr low) = let e : rule_number rule ≡ rule_number x.1 = ap (λ y. rule_number y.1) a in omega (arith, e, low.1)
not_lower x xs s layer rule (inr a) low = s layer rule a low

module _ (l : List Duty) (q : ℕ) where
  -- every rule of the list is kept
  abbrev pub AllKept : List (ℕ × Rule) → Type 0
  AllKept xs = (layer : ℕ) (rule : Rule) → Among (layer, rule) xs → Keeps rule l q

  pub none_kept : (xs : List (ℕ × Rule)) (o : Option Violation) → FirstBroken xs l q o → o ≡ None → AllKept xs
  none_kept [] o h e layer rule a = absurd a
  none_kept (x ∷ xs) o (inl h) e layer rule (inl a) = subst (λ y. Keeps y.1 l q) (sym a) h.0
  none_kept (x ∷ xs) o (inl h) e layer rule (inr a) = none_kept xs o h.1 e layer rule a
  none_kept (x ∷ xs) o (inr h) e layer rule a = absurd (some-none (named x) (sym h.1 ∙ e))

  pub kept-none : (xs : List (ℕ × Rule)) (o : Option Violation) → FirstBroken xs l q o → AllKept xs → o ≡ None
  kept-none [] o h k = h
  kept-none (x ∷ xs) o (inl h) k = kept-none xs o h.1 (λ layer rule a. k layer rule (inr a))
  kept-none (x ∷ xs) o (inr h) k = absurd (h.0 (k x.0 x.1 (inl refl)))

  pub broken_rule : (xs : List (ℕ × Rule)) (o : Option Violation) (v : Violation) → FirstBroken xs l q o → o ≡ Some v → (rule : Rule) × Among (v.layer, rule) xs × (rule_number rule ≡ v.rule) × (Keeps rule l q → ⊥)
  broken_rule [] o v h e = absurd (some-none v (sym e ∙ h))
  broken_rule (x ∷ xs) o v (inl h) e = let r = broken_rule xs o v h.1 e in (r.0, inr r.1, r.2, r.3)
  broken_rule (x ∷ xs) o v (inr h) e =
      let same : named x ≡ v = some_same (named x) v (sym h.1 ∙ e) in
      (x.1, inl (ap (λ w. (w.layer, x.1)) (sym same)), ap (λ w. w.rule) same, h.0)

  pub broken_lowest : (xs : List (ℕ × Rule)) (o : Option Violation) (v : Violation) → Sorted xs → FirstBroken xs l q o → o ≡ Some v → (layer : ℕ) (rule : Rule) → Among (layer, rule) xs → Lower layer (rule_number rule) v.layer v.rule → Keeps rule l q
  broken_lowest [] o v s h e layer rule a low = absurd a
  broken_lowest (x ∷ xs) o v s (inl h) e layer rule (inl a) low = subst (λ y. Keeps y.1 l q) (sym a) h.0
  broken_lowest (x ∷ xs) o v s (inl h) e layer rule (inr a) low = broken_lowest xs o v s.1 h.1 e layer rule a low
  broken_lowest (x ∷ xs) o v s (inr h) e layer rule a low =
      let same : v ≡ named x = some_same v (named x) (sym e ∙ h.1) in
      absurd (not_lower x xs s.0 layer rule a (subst (λ w. Lower layer (rule_number rule) w.layer w.rule) same low))

  -- a test that tells whether the first rule is broken, before what is said of the others
  pub broken_test : (x : ℕ × Rule) (xs : List (ℕ × Rule)) (b : Bool) (o : Option Violation) → (b ≡ true → Keeps x.1 l q → ⊥) → (b ≡ false → Keeps x.1 l q) → FirstBroken xs l q o → FirstBroken (x ∷ xs) l q (cond b (Some (named x)) o)
  broken_test x xs true o breaks keeps others = inr (breaks refl, refl)
  broken_test x xs false o breaks keeps others = inl (keeps refl, others)

  pub broken_both : (xs ys : List (ℕ × Rule)) (a b : Option Violation) → FirstBroken xs l q a → FirstBroken ys l q b → FirstBroken (xs ++ ys) l q (first_named a b)
  broken_both [] ys a b h k = subst (λ o. FirstBroken ys l q (first_named o b)) (sym h) k
  broken_both (x ∷ xs) ys a b (inl h) k = inl (h.0, broken_both xs ys a b h.1 k)
  broken_both (x ∷ xs) ys a b (inr h) k = inr (h.0, ap (λ o. first_named o b) h.1)

  pub broken_raised : (n : ℕ) → n < 255 → (rules : List Rule) (o : Option Violation) → FirstBroken (map (λ rule. (1, rule)) rules) l q o → FirstBroken (map (λ rule. (n + 1, rule)) rules) l q (raised n o)
  broken_raised n lt [] o h = ap (raised n) h
  broken_raised n lt (r ∷ rs) o (inl h) = inl (h.0, broken_raised n lt rs o h.1)
  broken_raised n lt (r ∷ rs) o (inr h) =
      let held : min 255 (n + 1) ≡ n + 1 = omega arith in
      inr (h.0, ap (raised n) h.1 ∙ ap (λ m. Some (record { rule = rule_number r; layer = m })) held)

-- a layer more on top
pub placed-push : (n : ℕ) (set : List (List Rule)) (own : List Rule) → placed n (set ++ own ∷ []) ≡ placed n set ++ map (λ rule. (length set + n, rule)) own
placed-push n [] own = append-nil _ ∙ ap (λ m. map (λ rule. (m, rule)) own) (omega arith)
placed-push n (layer ∷ set) own =
    ap (λ xs. map (λ rule. (n, rule)) layer ++ xs) (placed-push (n + 1) set own ∙ ap (λ m. placed (n + 1) set ++ map (λ rule. (m, rule)) own) (omega arith))
    ∙ sym (append_assoc (map (λ rule. (n, rule)) layer) (placed (n + 1) set) _)

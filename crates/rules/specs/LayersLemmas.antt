-- A book over another: what both allow is allowed, and a log is allowed exactly when each allows it.
use Rattle.std.specs.Prelude.{◌≡◌, ℕ, ◌+◌, min, ◌⊎◌, List, [], ◌∷◌, Some, None, Option, ◌≢◌, refl}
use Rattle.std.proofs.Common.{inl, inr, sym, ap, subst, ◌∙◌}
use Rattle.std.proofs.lemmas.Option.{none-some}
use Rattle.duty.specs.declared.Duty.{Duty}
use Rattle.rules.specs.declared.breach.Violation.{Violation}
use Rattle.rules.specs.declared.layered.Layered.{Layered}
use Rattle.rules.specs.Layers.{raised, first_named, moved}
use Rattle.rules.specs.Piling.{both_name, both_move}
use Rattle.rules.specs.Walk.{Allowed}

pub some-none : {V : Type 0} (v : V) → Some v ≢ None
some-none v e = none-some v (sym e)

pub named_none : (n : ℕ) (a b : Option Violation) → first_named a (raised n b) ≡ None → (a ≡ None) × (b ≡ None)
named_none n None None e = (refl, refl)
named_none n None (Some v) e = absurd (some-none _ e)
named_none n (Some v) b e = absurd (some-none _ e)

pub named-both : (n : ℕ) (a b : Option Violation) → a ≡ None → b ≡ None → first_named a (raised n b) ≡ None
named-both n a b p q = subst (λ o. first_named o (raised n b) ≡ None) (sym p) (ap (raised n) q)

pub moved-both : {S : Type 0} (a b : Option Violation) (new old : S) → a ≡ None → b ≡ None → moved (first_named a b) new old ≡ new
moved-both a b new old p q =
    ap (λ o. moved (first_named o b) new old) p ∙ ap (λ o. moved o new old) q

-- what is named by a pile is named by its lower book, or by its upper one with a layer counted on
pub named_cases : (n : ℕ) (a b : Option Violation) (v : Violation) → first_named a (raised n b) ≡ Some v → (a ≡ Some v) ⊎ ((w : Violation) × (b ≡ Some w) × (w.rule ≡ v.rule) × (min 255 (n + w.layer) ≡ v.layer))
named_cases n None None v e = absurd (some-none v (sym e))
named_cases n None (Some w) v e = let same : record { rule = w.rule; layer = min 255 (n + w.layer) } ≡ v = cc in inr (w, refl, ap (λ u. u.rule) same, ap (λ u. u.layer) same)
named_cases n (Some u) b v e = inl e

-- what holds of the old state and of the new one holds of the state that is moved to
pub moved_either : {S V : Type 0} (P : S → Type 0) (o : Option V) (new old : S) → P new → P old → P (moved o new old)
moved_either P None new old p q = p
moved_either P (Some v) new old p q = q

-- what the new state keeps of the old one is kept by the state that is moved to
pub moved_same : {S V : Type 0} (P : S → Type 0) (o : Option V) (new old : S) → (P old → P new) × (P new → P old) → (P old → P (moved o new old)) × (P (moved o new old) → P old)
moved_same P None new old both = both
moved_same P (Some v) new old both = ((λ h. h), (λ h. h))

module _ {O U : Type 0} (nu : O → ℕ → Duty → Option Violation) (au : O → ℕ → Duty → O) (nl : U → ℕ → Duty → Option Violation) (al : U → ℕ → Duty → U) (n : ℕ) where
  pub allowed_parts : (l : List Duty) (s : Layered O U) (q : ℕ) → Allowed (both_name nu au nl al n) (both_move nu au nl al n) s q l → Allowed nl al s.below q l × Allowed nu au s.own q l
  allowed_parts [] s q h = (tt, tt)
  allowed_parts (x ∷ l) s q h =
      let p = named_none n (nl s.below q x) (nu s.own q x) h.0 in
      let e = moved-both (nl s.below q x) (nu s.own q x) (record { own = au s.own q x; below = al s.below q x }) s p.0 p.1 in
      let k = allowed_parts l (record { own = au s.own q x; below = al s.below q x }) (q + 1) (subst (λ t. Allowed (both_name nu au nl al n) (both_move nu au nl al n) t (q + 1) l) e h.1) in
      ((p.0, k.0), (p.1, k.1))

  pub allowed-both : (l : List Duty) (s : Layered O U) (q : ℕ) → Allowed nl al s.below q l → Allowed nu au s.own q l → Allowed (both_name nu au nl al n) (both_move nu au nl al n) s q l
  allowed-both [] s q h k = tt
  allowed-both (x ∷ l) s q h k =
      let e = moved-both (nl s.below q x) (nu s.own q x) (record { own = au s.own q x; below = al s.below q x }) s h.0 k.0 in (
        named-both n (nl s.below q x) (nu s.own q x) h.0 k.0,
        subst (λ t. Allowed (both_name nu au nl al n) (both_move nu au nl al n) t (q + 1) l) (sym e) (allowed-both l (record { own = au s.own q x; below = al s.below q x }) (q + 1) h.1 k.1),
      )

-- Whether each status of a log is allowed in turn, by computation.
use Rattle.std.proofs.Common.{◌≡◌, ℕ, ◌+◌, Bool, true, not, ◌&&◌, List, [], ◌∷◌, is_some, Some, None, Option, refl}
use Rattle.std.proofs.lemmas.Bool.{and_parts, false≢true}
use Rattle.duty.specs.declared.Duty.{Duty}
use Rattle.rules.specs.Walk.{Allowed}

unnamed : {V : Type 0} (o : Option V) → not (is_some o) ≡ true → o ≡ None
unnamed None e = refl
unnamed (Some v) e = absurd (false≢true e)

module _ {S V : Type 0} (names : S → ℕ → Duty → Option V) (after : S → ℕ → Duty → S) where
  abbrev pub allows : S → ℕ → List Duty → Bool
  allows s q [] = true
  allows s q (x ∷ l) = not (is_some (names s q x)) && allows (after s q x) (q + 1) l

  pub allows-allowed : (l : List Duty) (s : S) (q : ℕ) → allows s q l ≡ true → Allowed names after s q l
  allows-allowed [] s q e = tt
  allows-allowed (x ∷ l) s q e =
      let both = and_parts _ _ e in
      (unnamed (names s q x) both.0, allows-allowed l (after s q x) (q + 1) both.1)

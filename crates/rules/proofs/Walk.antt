-- One status more at the end of a walk.
use Rattle.std.proofs.Common.{◌≡◌, ℕ, ◌+◌, List, [], ◌∷◌, ◌++◌, length, None, Option, ap, ◌∙◌, subst, arith}
use Rattle.duty.specs.declared.Duty.{Duty}
use Rattle.rules.specs.Walk.{led, Allowed}

module _ {S V : Type 0} (names : S → ℕ → Duty → Option V) (after : S → ℕ → Duty → S) where
  pub led-push : (l : List Duty) (s : S) (q : ℕ) (x : Duty) → led after s q (l ++ x ∷ []) ≡ after (led after s q l) (q + length l) x
  led-push [] s q x = ap (λ n. after s n x) (omega arith)
  led-push (y ∷ l) s q x =
      led-push l (after s q y) (q + 1) x ∙ ap (λ n. after (led after (after s q y) (q + 1) l) n x) (omega arith)

  pub allowed-push : (l : List Duty) (s : S) (q : ℕ) (x : Duty) → Allowed names after s q l → names (led after s q l) (q + length l) x ≡ None → Allowed names after s q (l ++ x ∷ [])
  allowed-push [] s q x h e = (ap (λ n. names s n x) (omega arith) ∙ e, tt)
  allowed-push (y ∷ l) s q x h e =
      (h.0, allowed-push l (after s q y) (q + 1) x h.1 (ap (λ n. names (led after (after s q y) (q + 1) l) n x) (omega arith) ∙ e))

  pub allowed-front : (l : List Duty) (s : S) (q : ℕ) (x : Duty) → Allowed names after s q (l ++ x ∷ []) → Allowed names after s q l
  allowed-front [] s q x h = tt
  allowed-front (y ∷ l) s q x h = (h.0, allowed-front l (after s q y) (q + 1) x h.1)

  pub allowed-last : (l : List Duty) (s : S) (q : ℕ) (x : Duty) → Allowed names after s q (l ++ x ∷ []) → names (led after s q l) (q + length l) x ≡ None
  allowed-last [] s q x h = ap (λ n. names s n x) (omega arith) ∙ h.0
  allowed-last (y ∷ l) s q x h =
      ap (λ n. names (led after (after s q y) (q + 1) l) n x) (omega arith) ∙ allowed-last l (after s q y) (q + 1) x h.1

  pub led-append : (l r : List Duty) (s : S) (q : ℕ) → led after s q (l ++ r) ≡ led after (led after s q l) (q + length l) r
  led-append [] r s q = ap (λ n. led after s n r) (omega arith)
  led-append (y ∷ l) r s q =
      led-append l r (after s q y) (q + 1) ∙ ap (λ n. led after (led after (after s q y) (q + 1) l) n r) (omega arith)

  pub allowed-append : (l r : List Duty) (s : S) (q : ℕ) → Allowed names after s q l → Allowed names after (led after s q l) (q + length l) r → Allowed names after s q (l ++ r)
  allowed-append [] r s q h k = subst (λ n. Allowed names after s n r) (omega arith) k
  allowed-append (y ∷ l) r s q h k =
      (h.0, allowed-append l r (after s q y) (q + 1) h.1 (subst (λ n. Allowed names after (led after (after s q y) (q + 1) l) n r) (omega arith) k))

  pub allowed_rest : (l r : List Duty) (s : S) (q : ℕ) → Allowed names after s q (l ++ r) → Allowed names after (led after s q l) (q + length l) r
  allowed_rest [] r s q h = subst (λ n. Allowed names after s n r) (omega arith) h
  allowed_rest (y ∷ l) r s q h =
      subst (λ n. Allowed names after (led after (after s q y) (q + 1) l) n r) (omega arith) (allowed_rest l r (after s q y) (q + 1) h.1)

-- Covering is reflexive and transitive where `better` is, and of sensible labels it says what the code tests.
use Rattle.std.proofs.Common.{◌≡◌, ℕ, List, refl, ap, ◌∙◌, inl, inr, ⊎_elim, arith}
use Rattle.std.proofs.lemmas.Bool.{cases_lt}
use Rattle.planning.specs.declared.Label.{Label}
use Rattle.planning.specs.declared.Stop.{Stop}
use Rattle.planning.specs.Labels.{stop_at, Covers}
use Rattle.planning.specs.Plain.{Plainly}
use Rattle.planning.proofs.Starts.{Sensible}
use Rattle.planning.proofs.Leads.{from_now}

module _ {R : Type 0} (better : R → R → Type 0) (stops : List Stop) where
  pub covers_refl : ((s : R) → better s s) → (a : Label R) → Covers better stops a a
  covers_refl reflexive a = record {
    stop = refl;
    row = reflexive a.row;
    far = ⊎_elim (λ b. inl (b, b, refl)) (λ n. inr (omega arith, omega arith, omega arith)) (cases_lt a.service (stop_at stops a.stop).service);
  }

  pub covers_trans : ((s t u : R) → better s t → better t u → better s u) → (a b c : Label R) → Covers better stops a b → Covers better stops b c → Covers better stops a c
  covers_trans transitive a b c ab bc = record {
    stop = ab.stop ∙ bc.stop;
    row = transitive a.row b.row c.row ab.row bc.row;
    far = ⊎_elim
        (λ s. ⊎_elim (λ t. inl (s.0, t.1, s.2 ∙ t.2)) (λ t. absurd (t.0 s.1)) bc.far)
        (λ s. ⊎_elim (λ t. absurd (s.1 t.0)) (λ t. inr (s.0, t.1, omega arith)) bc.far) ab.far;
  }

  -- covering does not look at `from`
  pub covers_from : (g : ℕ) (a b : Label R) → Covers better stops a (from_now g b) → Covers better stops a b
  covers_from g a b c = record { stop = c.stop; row = c.row; far = c.far }

  pub plain_covers : (a b : Label R) → Plainly better a b → Covers better stops a b
  plain_covers a b p =
      let same : (stop_at stops a.stop).service ≡ (stop_at stops b.stop).service = ap (λ i. (stop_at stops i).service) p.0 in
      record {
        stop = p.0;
        row = p.3;
        far = ⊎_elim (λ l. inl (l, omega arith, p.1)) (λ n. inr (omega arith, omega arith, p.2)) (cases_lt a.service (stop_at stops a.stop).service);
      }

  pub covers_plain : (a b : Label R) → Sensible stops a → Sensible stops b → Covers better stops a b → Plainly better a b
  covers_plain a b sa sb c =
      let same : (stop_at stops a.stop).service ≡ (stop_at stops b.stop).service = ap (λ i. (stop_at stops i).service) c.stop in
      ⊎_elim
      (λ s. let none = sa.begun-driven s.0 in (c.stop, s.2, omega arith, c.row))
      (λ s. (c.stop, omega (arith, s.0, s.1, sa.most, sb.most), s.2, c.row)) c.far

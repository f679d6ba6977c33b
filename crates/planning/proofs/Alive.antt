-- When a label is alive.
--   alive_back           before a move, if it leads to one that is alive
--   alive-covers         if it covers one that is alive
--   alive-serves         if work serves the tour's last quarter from it
use Rattle.std.proofs.Common.{◌≡◌, ℕ, ◌+◌, true, List, Some, Option, sym, ap, subst, inl, inr, ⊎_elim, arith}
use Rattle.duty.specs.declared.Duty.{Duty}
use Rattle.duty.specs.declared.Duty.TheVariants.{Rest, Work, Drive}
use Rattle.rules.specs.declared.breach.Violation.{Violation}
use Rattle.planning.specs.declared.Label.{Label}
use Rattle.planning.specs.declared.Stop.{Stop}
use Rattle.planning.specs.Labels.{stop_at, Alive, Covers}
use Rattle.planning.specs.Moves.{ready, lead, move, serves_all}
use Rattle.planning.proofs.Leads.{rested, driven, ready_parts, serves_parts, lead_rest, lead_drive, lead_work, move_parts}

module _ {R : Type 0} (stops : List Stop) (q : ℕ) where
  alive-ready : (a : Label R) → ready stops q a ≡ true → Alive stops q a
  alive-ready a r = let t = ready_parts stops q a r in ⊎_elim inl (λ w. inr (omega arith)) t.1

  pub alive-covers : (better : R → R → Type 0) (a b : Label R) → Covers better stops a b → Alive stops q b → Alive stops q a
  alive-covers better a b c l =
      let same : (stop_at stops b.stop).closes ≡ (stop_at stops a.stop).closes = ap (λ i. (stop_at stops i).closes) (sym c.stop) in
      ⊎_elim (λ both. inl both.0) (λ neither. ⊎_elim (λ begun. absurd (neither.1 begun)) (λ in-time. inr (omega arith)) l) c.far

  pub alive-serves : (names : R → ℕ → Duty → Option Violation) (a : Label R) → serves_all names stops q a ≡ true → Alive stops q a
  alive-serves names a e = alive-ready a (serves_parts stops q a names e).1

module _ {R : Type 0} (names : R → ℕ → Duty → Option Violation) (after : R → ℕ → Duty → R) (stops : List Stop) (q f : ℕ) (a b : Label R) where
  lead_back : (row : R) (x : Duty) → lead stops q f a row x ≡ Some b → Alive stops (q + 1) b → Alive stops q a
  lead_back row Rest e l =
      let t = lead_rest stops q f a row b e in
      let before : Alive stops (q + 1) (rested f a row) = subst (Alive stops (q + 1)) (sym t.1) l in
      ⊎_elim inl (λ in-time. inr (omega arith)) before
  lead_back row Drive e l =
      let t = lead_drive stops q f a row b e in
      let before : Alive stops (q + 1) (driven f a row) = subst (Alive stops (q + 1)) (sym t.2) l in
      ⊎_elim inl (λ in-time. inr (omega arith)) before
  lead_back row Work e l = alive-ready stops q a (lead_work stops q f a row b e).0

  pub alive_back : (x : Duty) → move names after stops q f a x ≡ Some b → Alive stops (q + 1) b → Alive stops q a
  alive_back x e l = lead_back (after a.row q x) x (move_parts names after stops q f a b x e).1 l

-- An offer leads to one list, at most one longer than what was kept, and with a place left it is taken. Assumes nothing.
use Rattle.std.proofs.Common.{◌≡◌, ◌+◌, ◌<◌, ◌≤◌, List, [], ◌∷◌, ◌++◌, length, Result, Ok, Err, IfOk, MatchResult, sym, ap, ◌∙◌, inl, inr, arith}
use Rattle.std.proofs.lemmas.List.{length_push}
use Rattle.frontier.specs.Cover.{StillSmallest}
use Rattle.frontier.specs.Offer.{Offered, LacksPlace}
use Rattle.frontier.specs.Places.{all, kept}
use Rattle.frontier.specs.declared.container.Frontier.{Frontier}
use Rattle.frontier.specs.declared.refusal.Refusal.{Refusal}
use Rattle.frontier.proofs.Lefts.{without_unique, without_shorter}

module _ {X : Type 0} (covers : X → X → Type 0) (kept : List X) (x : X) where
  pub offered_unique : (after other : List X) → Offered covers kept x after → Offered covers kept x other → after ≡ other
  offered_unique after other (inl o) (inl p) = o.1 ∙ sym p.1
  offered_unique after other (inl o) (inr p) = absurd (p.0 o.0)
  offered_unique after other (inr o) (inl p) = absurd (o.0 p.0)
  offered_unique after other (inr o) (inr p) =
      o.1.2 ∙ ap (λ l. l ++ (x ∷ [])) (without_unique covers x kept o.1.0 p.1.0 o.1.1 p.1.1) ∙ sym p.1.2

  pub offered-length : (after : List X) → Offered covers kept x after → length after ≤ length kept + 1
  offered-length after (inl o) = omega (arith, ap length o.1)
  offered-length after (inr o) =
      omega (arith, ap length o.1.2, length_push o.1.0 x, without_shorter covers x kept o.1.0 o.1.1)

module _ {X : Type 0} (covers : X → X → Type 0) where
  pub taken : (f g : Frontier X) (x : X) (r : Result (Unit {0}) Refusal)
      → MatchResult r (λ _. Offered covers (kept f) x (kept g)) (λ why. LacksPlace covers (all f) (kept f) x why)
      → IfOk r (λ _. StillSmallest covers (kept f) x (kept g))
      → length (kept f) < length (all f)
      → (length (kept g) ≤ length (kept f) + 1) × StillSmallest covers (kept f) x (kept g)
  taken f g x (Ok _) value still room = (offered-length covers (kept f) x (kept g) value, still)
  taken f g x (Err why) value still room =
      absurd (omega (arith, offered-length covers (kept f) x value.1.0 value.1.1, value.1.2))

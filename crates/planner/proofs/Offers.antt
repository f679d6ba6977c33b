-- Offers to a frontier with a place left. Assumes nothing.
use Rattle.std.proofs.Common.{◌≡◌, ℕ, ◌+◌, ◌<◌, ◌≤◌, true, List, [], ◌∷◌, ◌++◌, length, IfOk, Some, Ok, Err, Option, Result, sym, ap, ◌∙◌, subst, arith, MatchResult}
use Rattle.std.proofs.lemmas.Bool.{cond-true}
use Rattle.frontier.specs.Cover.{SmallestCover, StillSmallest}
use Rattle.frontier.specs.Offer.{Offered, LacksPlace}
use Rattle.frontier.specs.Places.{all, kept}
use Rattle.frontier.specs.declared.container.Frontier.{Frontier}
use Rattle.frontier.specs.declared.refusal.Refusal.{Refusal}
use Rattle.frontier.proofs.Exact.{offered-length}
use Rattle.planning.specs.declared.Label.{Label}
use Rattle.planning.specs.declared.Stop.{Stop}
use Rattle.planner.specs.Candidates.{alive, live}

module _ {X : Type 0} (covers : X → X → Type 0) where
  -- with a place left an offer is taken
  pub taken : (f g : Frontier X) (x : X) (r : Result (Unit {0}) Refusal)
      → MatchResult r (λ _. Offered covers (kept f) x (kept g)) (λ why. LacksPlace covers (all f) (kept f) x why)
      → IfOk r (λ _. StillSmallest covers (kept f) x (kept g))
      → length (kept f) < length (all f)
      → (length (kept g) ≤ length (kept f) + 1) × StillSmallest covers (kept f) x (kept g)
  taken f g x (Ok _) value still room = (offered-length covers (kept f) x (kept g) value, still)
  taken f g x (Err why) value still room =
      absurd (omega (arith, offered-length covers (kept f) x value.1.0 value.1.1, value.1.2))

-- what was offered is the label that was moved to and lives
pub as_live : {R : Type 0} (covers : Label R → Label R → Type 0) (stops : List Stop) (q : ℕ) (made : Option (Label R)) (b : Label R) (labels seen : List (Label R))
    → made ≡ Some b → true ≡ alive stops q b
    → SmallestCover covers labels (seen ++ (b ∷ [])) → SmallestCover covers labels (seen ++ live stops q made)
as_live covers stops q made b labels seen is lives s =
    let one : live stops q made ≡ b ∷ [] = ap (live stops q) is ∙ cond-true (alive stops q b) (b ∷ []) [] (sym lives) in
    subst (λ l. SmallestCover covers labels (seen ++ l)) (sym one) s

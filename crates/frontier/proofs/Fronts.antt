-- The front of the places that a frontier had.
use Rattle.std.proofs.Common.{◌≡◌, ℕ, ◌≤◌, List, length, take, ap, ◌∙◌, arith}
use Rattle.std.proofs.lemmas.List.{length-take}
use Rattle.frontier.specs.Places.{all, kept}
use Rattle.frontier.specs.declared.container.Frontier.{Frontier}

module _ {X : Type 0} where
  pub front : (f : Frontier X) (places : List X) (n : ℕ) → n ≡ length (kept f) → places ≡ all f → take n places ≡ kept f
  front f places n is same = ap (take n) same ∙ ap (λ k. take k (all f)) (omega (arith, length-take f.count (all f), f.fits))

  pub front_fits : (f : Frontier X) (places : List X) (n : ℕ) → n ≡ length (kept f) → places ≡ all f → n ≤ length places
  front_fits f places n is same = omega (arith, length-take f.count (all f), ap length same)

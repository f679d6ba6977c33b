-- Under a preorder, a cover of which none covers another is as short as any. Assumes nothing.
use Rattle.std.proofs.Common.{◌≤◌, List, [], ◌∷◌, length, sym, refl, subst, inl, inr}
use Rattle.frontier.specs.Lists.{In, Subsequence, Pairwise}
use Rattle.frontier.specs.Cover.{Preorder, Cover, Apart, First, SmallestCover}
use Rattle.frontier.proofs.Members.{subsequence-in, pairwise_weaker, pairwise-each}
use Rattle.frontier.proofs.Pigeonhole.{pigeonhole}

module _ {X : Type 0} (covers : X → X → Type 0) where
  none : (k : X) (xs : List X) → ((x : X) → In x xs → covers k x → ⊥) → Pairwise (λ x y. covers k x → covers k y → ⊥) xs
  none k [] f = tt
  none k (x ∷ xs) f = (λ y h a b. f x (inl refl) a, none k xs (λ y h. f y (inr h)))

  -- one of kept covers no two of them
  one_only : (k : X) (kept : List X) → Apart covers kept → In k kept → Pairwise (λ x y. covers k x → covers k y → ⊥) kept
  one_only k [] apart h = absurd h
  one_only k (x ∷ xs) apart (inl e) =
      let away : (y : X) → In y xs → covers k y → ⊥ = λ y h a. (apart.0 y h).0 (subst (λ z. covers z y) (sym e) a) in
      (λ y h a b. away y h b, none k xs away)
  one_only k (x ∷ xs) apart (inr h) = (λ y j a b. (apart.0 k h).1 a, one_only k xs apart.1 h)

  pub smallest : Preorder covers → (kept seen : List X)
      → ((x : X) → In x kept → In x seen)
      → Cover covers kept seen
      → Apart covers kept
      → (other : List X) → ((x : X) → In x other → In x seen) → Cover covers other seen → length kept ≤ length other
  smallest order kept seen among cover apart other within covering =
      let alone = pairwise-each (λ y x z. covers y x → covers y z → ⊥) other kept (λ y i.
      let by = cover y (within y i) in
      pairwise_weaker (λ x z. covers by.0 x → covers by.0 z → ⊥) (λ x z. covers y x → covers y z → ⊥) kept
      (λ x z f a b. f (order.transitive by.0 y x by.2 a) (order.transitive by.0 y z by.2 b))
      (one_only by.0 kept apart by.1)) in
      pigeonhole covers kept other (λ x h. covering x (among x h)) alone

  -- the last part of a smallest cover follows from the others
  pub smallest_cover : Preorder covers → (kept seen : List X)
      → Subsequence kept seen → Cover covers kept seen → Apart covers kept → ((x : X) → In x kept → First covers seen x)
      → SmallestCover covers kept seen
  smallest_cover order kept seen arrival cover apart first = record {
    arrival = arrival;
    cover = cover;
    apart = apart;
    first = first;
    least = smallest order kept seen (λ x. subsequence-in x kept seen arrival) cover apart;
  }

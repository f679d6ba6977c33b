-- Pairs of numbers, of which smaller ones are better.
--   NoLarger p q             neither number of p is larger than that of q
--   Chosen n places offered  the first n of places are a smallest cover of the offered pairs
use Rattle.std.specs.Prelude.{ℕ, ◌≤◌, List, length, take}
use Rattle.frontier.specs.Cover.{SmallestCover}
use Rattle.frontier_pairs.specs.declared.pair.Pair.{Pair}

abbrev pub NoLarger : Pair → Pair → Type 0
NoLarger p q = (p.first ≤ q.first) × (p.second ≤ q.second)

abbrev pub Chosen : ℕ → List Pair → List Pair → Type 0
Chosen n places offered = (n ≤ length places) × SmallestCover NoLarger (take n places) offered

-- What a frontier keeps that is offered, one by one, what stands in its own places. Assumes nothing.
use Rattle.std.proofs.Common.{◌≡◌, ℕ, ◌+◌, ◌<◌, ◌≤◌, List, [], ◌∷◌, ◌++◌, length, get_or, take, drop, IfOk, Result, sym, ap, ◌∙◌, subst, arith, MatchResult}
use Rattle.std.proofs.lemmas.List.{take_more, drop_more}
use Rattle.frontier.specs.Cover.{SmallestCover, StillSmallest}
use Rattle.frontier.specs.Offer.{Offered, LacksPlace}
use Rattle.frontier.specs.Places.{all, kept, SameBeyond}
use Rattle.frontier.specs.declared.container.Frontier.{Frontier}
use Rattle.frontier.specs.declared.refusal.Refusal.{Refusal}
use Rattle.frontier.proofs.Exact.{taken}
use Rattle.frontier.proofs.Outcome.{drop_later}
use Rattle.frontier_pairs.specs.Pairs.{NoLarger}
use Rattle.frontier_pairs.specs.declared.pair.Pair.{Pair}

-- f keeps a smallest cover of the first i of xs, and from i on has its places as xs
pub record Moved (xs : List Pair) (f : Frontier Pair) (i : ℕ) : Type 0 where
  pub smallest : SmallestCover NoLarger (kept f) (take i xs)
  pub fewer : length (kept f) ≤ i
  pub rest : drop i (all f) ≡ drop i xs
  pub long : length (all f) ≡ length xs

pub moved_more : (xs places : List Pair) (f g : Frontier Pair) (i : ℕ) (x d : Pair) (r : Result (Unit {0}) Refusal)
    → Moved xs f i → i < length xs → places ≡ all f → x ≡ get_or places i d
    → MatchResult r (λ _. Offered NoLarger (kept f) x (kept g)) (λ why. LacksPlace NoLarger (all f) (kept f) x why)
    → IfOk r (λ _. StillSmallest NoLarger (kept f) x (kept g))
    → SameBeyond f g → length (all g) ≡ length (all f)
    → Moved xs g (i + 1)
moved_more xs places f g i x d r m within same read value still beyond long =
    let both = taken NoLarger f g x r value still (omega (arith, m.fewer, m.long)) in
    let heads : get_or (all f) i d ∷ drop (i + 1) (all f) ≡ get_or xs i d ∷ drop (i + 1) xs =
    sym (drop_more (all f) i d (omega (arith, m.long))) ∙ m.rest ∙ drop_more xs i d within in
    let here : x ≡ get_or xs i d = read ∙ ap (λ l. get_or l i d) same ∙ ap (λ l. get_or l 0 d) heads in
    let seen : take i xs ++ (x ∷ []) ≡ take (i + 1) xs = ap (λ y. take i xs ++ (y ∷ [])) here ∙ sym (take_more xs i d within) in
    record {
      smallest = subst (SmallestCover NoLarger (kept g)) seen (both.1 (take i xs) m.smallest);
      fewer = omega (arith, both.0, m.fewer);
      rest = drop_later (all f) (all g) _ (i + 1) (omega (arith, both.0, m.fewer)) beyond ∙ ap (drop 1) heads;
      long = long ∙ m.long;
    }

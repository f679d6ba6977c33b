use Rattle.std.proofs.Common.{rules}
use Rattle.std.proofs.lemmas.Iterator.{IsFirst-from_position, YieldsList-from_slice}
use Rattle.std.proofs.lemmas.Bool.Decides.{not_from_Decides}
use Rattle.frontier.proofs.Asking.{staying}
use Rattle.frontier.proofs.passes.uncovered.Goals as goal

pub returns : goal.returns
returns g c =
    let covers = g.T.Covers.covers in
    let xs = c.args.kept.now in
    let x = c.args.x.now in
    let both = staying covers x xs c.position.result c.unwrap_or.result (search rules)
    (IsFirst-from_position _ _ _ (λ y. covers x y) (λ y. covers x y → ⊥) c.position.ensures.ran (YieldsList-from_slice xs cc)
    (λ y q k. search rules) (λ y q k. search (rules, not_from_Decides))) in
    record { fewer = both.0; stay = both.1 }

use Rattle.std.proofs.Common.{rules}
use Rattle.std.proofs.lemmas.Iterator.{cases_from_any, YieldsList-from_slice}
use Rattle.std.proofs.lemmas.Bool.Decides.{not_from_Decides}
use Rattle.frontier.proofs.Asking.{covered_decided}
use Rattle.frontier.proofs.passes.is_covered.Goals as goal

pub returns : goal.returns
returns g c =
    let covers = g.T.Covers.covers in
    let xs = c.args.kept.now in
    let x = c.args.x.now in
    covered_decided covers x xs _
    (cases_from_any _ _ _ (λ y. covers y x) (λ y. covers y x → ⊥) c.any.ensures.ran (YieldsList-from_slice xs cc)
    (λ y q k. search rules) (λ y q k. search (rules, not_from_Decides)))

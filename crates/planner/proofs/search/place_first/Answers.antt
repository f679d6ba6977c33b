use Rattle.std.proofs.Common.{◌<◌, [], ◌∷◌, length, sym, ap, ◌∙◌, arith}
use Rattle.std.proofs.lemmas.List.{take_more_set}
use Rattle.std.proofs.lemmas.Bool.{cond-true}
use Rattle.planner.specs.Candidates.{alive}
use Rattle.planner.proofs.search.place_first.Goals as goal

pub returns-then-is_alive-clause-labels : goal.returns-then-is_alive-clause-labels
returns-then-is_alive-clause-labels g c =
    let within : 0 < length c.args.front.now = omega arith in
    take_more_set c.args.front.now 0 c.first_label-label.result within
    ∙ ap (λ a. a ∷ []) c.first_label-label.ensures
    ∙ sym (cond-true _ _ _ (ap (alive c.args.stops.now c.args.begin) (sym c.first_label-label.ensures) ∙ sym c.is_alive.ensures ∙ c.if-is_alive.true))

use Rattle.std.proofs.Common.{◌≡◌, length, replicate, ◌∙◌, ap₂, arith, rules}
use Rattle.planning.specs.Moves.{label_at}
use Rattle.planner.specs.Toured.{stops_of}
use Rattle.planner.proofs.Answered.{solved-left}
use Rattle.planner.proofs.Filling.{filled}
use Rattle.planner.proofs.plan.plan.Goals as goal

pub returns-clause-sheet : goal.returns-clause-sheet
returns-clause-sheet g c =
    let start = g.B.RuleBook.figures c.args.card.now.book in
    let all : length c.fill_with.new.self ≡ length c.args.labels.now = omega arith in
    let is : c.first_label-first.result ≡ label_at (stops_of c.args.tour.now) 0 0 start = search rules in
    let cleared : c.fill_with.new.self ≡ replicate (length c.args.labels.now) (label_at (stops_of c.args.tour.now) 0 0 start) =
    filled _ _ c.first_label-first.result (λ x f call. search rules) c.fill_with.new.self c.fill_with.ensures.ran.0 c.fill_with.ensures.ran.1
    ∙ ap₂ replicate all is in
    solved-left g.B.RuleBook.names g.B.RuleBook.after g.B.Row.Figures.better (stops_of c.args.tour.now) start c.args.card.now.now c.in_ok-size.size.width c.in_ok-size.size.span c.solve-answer.new.output c.solve-answer.result _ _ _ c.solve-answer.ensures.value cleared

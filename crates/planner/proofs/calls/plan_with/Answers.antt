use Rattle.std.proofs.Common.{◌≡◌, ◌-◌, ◌*◌, length, take, vec_items, vec_len, Ok, Err, ap, ◌∙◌, inr, rules}
use Rattle.std.proofs.lemmas.List.{with_items_is}
use Rattle.planner.specs.History.{width, span}
use Rattle.planner.specs.Toured.{stops_of}
use Rattle.planner.proofs.Answered.{planned-solved}
use Rattle.planner.proofs.calls.plan_with.Goals as goal

pub returns : goal.returns
returns g c =
    let b = c.args.buffers in
    let sized = c.in-Ok.ensures in
    let sheet : length c.as_mut_slice.result.now ≡ b.labels = search rules in
    let trail : length c.as_mut_slice-2.result.now ≡ width b.labels * span (stops_of c.args.tour.now) c.args.card.now.now = search rules in
    let room : length c.plan-planned.new.output ≡ span (stops_of c.args.tour.now) c.args.card.now.now = search rules in
    inr (sized.0, planned-solved g.B.RuleBook.names g.B.RuleBook.after g.B.Row.Figures.better (stops_of c.args.tour.now) (g.B.RuleBook.figures c.args.card.now.book) c.args.card.now.now b.labels b.predecessors b.output _ _ c.plan-planned.new.output (Err c.in-Err-planned.why) sized.0 sheet trail room c.in-Err-planned.ensures.value)

pub returns-in-Ok-planned : goal.returns-in-Ok-planned
returns-in-Ok-planned g c =
    let b = c.args.buffers in
    let sized = c.in-Ok.ensures in
    let sheet : length c.as_mut_slice.result.now ≡ b.labels = search rules in
    let trail : length c.as_mut_slice-2.result.now ≡ width b.labels * span (stops_of c.args.tour.now) c.args.card.now.now = search rules in
    let room : length c.plan-planned.new.output ≡ span (stops_of c.args.tour.now) c.args.card.now.now = search rules in
    let long : length c.plan-planned.new.output ≡ vec_len c.in_ok-letters.letters = search rules in
    let kept : vec_items c.shrink_to_fit.new.self ≡ take (c.in-Ok-planned.end - c.args.card.now.now) c.plan-planned.new.output =
    c.shrink_to_fit.ensures.items ∙ c.truncate.ensures.items ∙ ap (take (c.in-Ok-planned.end - c.now.result)) (with_items_is c.in_ok-letters.letters c.plan-planned.new.output long) ∙ ap (λ n. take (c.in-Ok-planned.end - n) c.plan-planned.new.output) c.now.ensures in (
      sized.0,
      (c.plan-planned.new.output, planned-solved g.B.RuleBook.names g.B.RuleBook.after g.B.Row.Figures.better (stops_of c.args.tour.now) (g.B.RuleBook.figures c.args.card.now.book) c.args.card.now.now b.labels b.predecessors b.output _ _ c.plan-planned.new.output (Ok c.in-Ok-planned.end) sized.0 sheet trail room c.in-Ok-planned.ensures.value, kept),
    )

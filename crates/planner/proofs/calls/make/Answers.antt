use Rattle.std.proofs.Common.{◌≡◌, ◌+◌, ◌<◌, ◌≤◌, length, Result, sym, ap, ◌∙◌, subst, subst₂, rules}
use Rattle.rules.specs.declared.refusal.Refusal.{Refusal}
use Rattle.planner.specs.declared.call.Call.{Call}
use Rattle.planner.specs.declared.card.DriverCard.{DriverCard}
use Rattle.planner.specs.declared.tour.Tour.{Tour}
use Rattle.planner.specs.History.{History, last_stop}
use Rattle.planner.specs.Promise.{Answer, Answers}
use Rattle.planner.specs.Standing.{StandsFor, AnswersPlan, answer_of}
use Rattle.planner.specs.Toured.{stops_of}
use Rattle.planner.proofs.PlanStandings.{standing_plan, made_more}
use Rattle.planner.proofs.Spans.{last_within}
use Rattle.planner.proofs.Standings.{standing_record, standing_add, standing_drop}
use Rattle.planner.proofs.calls.make.Goals.{in-Record, in-Add, in-Drop}
use Rattle.planner.proofs.calls.make.Goals as goal

pub returns : goal.returns
returns g c =
    λ s ss h stands.
    let row = g.B.RuleBook.figures c.args.card.now.book in
    let now = c.args.card.now.now in
    let stops = stops_of c.args.tour.now in
    let Leads : Call → Answer → DriverCard g.row.B.Denot → Tour → Type 0 =
    λ k a card tour. (h' : History) × Answers g.B.RuleBook.names g.B.RuleBook.after g.B.Row.Figures.better (g.B.RuleBook.opened s) (g.B.RuleBook.lawful s) h k a h' × StandsFor g.B.RuleBook.names g.B.RuleBook.after (g.B.RuleBook.opened s) (g.B.RuleBook.figures card.book) card.now (stops_of tour) h' in
    let answered : c.map.result ≡ answer_of c.match-call.done = search rules in
    let same : (k : Call) (r : Result (Unit {0}) Refusal) (card : DriverCard g.row.B.Denot) (tour : Tour) → c.args.call ≡ k → c.match-call.done ≡ r → c.match-call.card ≡ card → c.match-call.tour ≡ tour → Leads k (answer_of r) card tour → Leads c.args.call c.map.result c.match-call.card c.match-call.tour =
    λ k r card tour is done cards tours leads. subst₂ (λ k a. Leads k a c.match-call.card c.match-call.tour) (sym is) (sym (answered ∙ ap answer_of done)) (subst₂ (λ card tour. Leads k (answer_of r) card tour) (sym cards) (sym tours) leads) in
    elim c.match-call.branch [
      | in-Record w ↦ same _ _ _ _ w.in-Record.is w.done-is w.card-is w.tour-is (standing_record g.B.RuleBook.names g.B.RuleBook.after g.B.Row.Figures.better (g.B.RuleBook.opened s) (g.B.RuleBook.lawful s) (λ l short. g.met.B.RuleBook.judged s l ss short) row now stops h stands _ _ _ _ _ w.record-done.ensures)
      | in-Add w ↦ same _ _ _ _ w.in-Add.is w.done-is w.card-is w.tour-is (standing_add g.B.RuleBook.names g.B.RuleBook.after g.B.Row.Figures.better (g.B.RuleBook.opened s) (g.B.RuleBook.lawful s) (λ l short. g.met.B.RuleBook.judged s l ss short) row now stops h stands _ _ _ w.add-done.ensures)
      | in-Drop w ↦ same _ _ _ _ w.in-Drop.is w.done-is w.card-is w.tour-is (standing_drop g.B.RuleBook.names g.B.RuleBook.after g.B.Row.Figures.better (g.B.RuleBook.opened s) (g.B.RuleBook.lawful s) (λ l short. g.met.B.RuleBook.judged s l ss short) row now stops h stands _ _ w.drop_last-done.ensures)
    ]

pub returns-in-Plan : goal.returns-in-Plan
returns-in-Plan g c =
    let row = g.B.RuleBook.figures c.args.card.now.book in
    let now = c.args.card.now.now in
    made_more c.plan_with.result (AnswersPlan g.B.RuleBook.names g.B.RuleBook.after g.B.Row.Figures.better (stops_of c.args.tour.now) row now c.in-Plan.buffers) _
    (λ a p s ss h stands.
    let fits : 0 < length h.stops → (last_stop h.stops).closes + (last_stop h.stops).service ≤ 2688 = subst (λ l. 0 < length l → (last_stop l).closes + (last_stop l).service ≤ 2688) stands.tour (last_within c.args.tour.now) in
    subst (λ k. (h' : History) × Answers g.B.RuleBook.names g.B.RuleBook.after g.B.Row.Figures.better (g.B.RuleBook.opened s) (g.B.RuleBook.lawful s) h k a h' × StandsFor g.B.RuleBook.names g.B.RuleBook.after (g.B.RuleBook.opened s) row now (stops_of c.args.tour.now) h') (sym c.in-Plan.is)
    (h, standing_plan g.B.RuleBook.names g.B.RuleBook.after g.B.Row.Figures.better (g.B.RuleBook.opened s) (g.B.RuleBook.lawful s) (λ l short. g.met.B.RuleBook.judged s l ss short) h stands.recorded fits c.in-Plan.buffers row now (stops_of c.args.tour.now) a stands p, stands))
    c.plan_with.ensures

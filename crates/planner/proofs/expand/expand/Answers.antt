use Rattle.std.proofs.Common.{◌≡◌, length, take, refl, ap, ◌∙◌, arith, rules}
use Rattle.frontier.specs.Places.{all}
use Rattle.planner.proofs.Expansion.{expanded_more, expanded-whole}
use Rattle.planner.proofs.expand.expand.Goals as goal

pub loop-j-init : goal.loop-j-init
loop-j-init g c = (
  record {
    smallest = c.new-frontier.ensures.smallest;
    few = omega (arith, ap length c.new-frontier.ensures.empty);
    long = refl;
  },
  refl,
)

pub offer_live-requires : goal.offer_live-requires
offer_live-requires g c =
    omega (arith, c.loop-j.invariant.0.few, c.loop-j.invariant.0.long, ap length c.new-frontier.ensures.same)

pub offer_live-requires-in-loop-j : goal.offer_live-requires-in-loop-j
offer_live-requires-in-loop-j g c =
    omega (arith, c.loop-j.invariant.0.few, c.loop-j.invariant.0.long, ap length c.new-frontier.ensures.same, c.offer_live.ensures.more, c.offer_live.ensures.room)

pub loop-j-preserved : goal.loop-j-preserved
loop-j-preserved g c = (
  expanded_more g.B.RuleBook.names g.B.RuleBook.after c.args.moment.stops.now c.args.moment.quarter g.B.Row.Figures.better c.args.labels.now _
      c.loop-j.frontier c.offer_live.new.frontier c.offer_live-in-loop-j.new.frontier c.loop-j.j c.index-labels-j.result
      c.note.result c.note-in-loop-j.result c.second_duty-duty.result c.attempt-rested.result c.attempt-moved.result
      c.loop-j.invariant.0 (omega arith) c.index-labels-j.is c.note.ensures c.attempt-rested.ensures c.second_duty-duty.ensures
      c.note-in-loop-j.ensures c.attempt-moved.ensures c.offer_live.ensures.smallest c.offer_live.ensures.more c.offer_live.ensures.room
      c.offer_live-in-loop-j.ensures.smallest c.offer_live-in-loop-j.ensures.more c.offer_live-in-loop-j.ensures.room,
  c.offer_live-in-loop-j.ensures.lender ∙ c.offer_live.ensures.lender ∙ c.loop-j.invariant.1,
)

pub returns : goal.returns
returns g c =
    let f = c.loop-j.frontier in
    let end : c.loop-j.j ≡ length c.args.labels.now = omega arith in
    let first : c.split_at.result.0.now ≡ take c.count-kept.result (all f) = search rules in
    record {
      smallest = expanded-whole g.B.RuleBook.names g.B.RuleBook.after c.args.moment.stops.now c.args.moment.quarter g.B.Row.Figures.better c.args.labels.now _
          f c.loop-j.j c.count-kept.result _ c.loop-j.invariant.0 end c.count-kept.ensures first;
      few = omega (arith, c.loop-j.invariant.0.few, c.count-kept.ensures, end, ap length first);
    }

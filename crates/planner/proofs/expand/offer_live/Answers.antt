use Rattle.frontier.specs.Places.{kept}
use Rattle.planning.specs.Plain.{Plainly}
use Rattle.planner.proofs.Offers.{taken, as_live}
use Rattle.planner.proofs.expand.offer_live.Goals as goal

pub returns-then-is_alive : goal.returns-then-is_alive
returns-then-is_alive g c =
    let covers = Plainly g.R.Figures.better in
    let f = c.offer.new.self in
    let both = taken covers c.args.frontier.now f c.in-Some.label c.offer.result c.offer.ensures.value c.offer.ensures.smallest c.requires in
    record {
      smallest = λ seen s. as_live covers c.args.stops.now c.args.q c.args.made c.in-Some.label (kept f) seen
          c.in-Some.is c.if-is_alive.ensures (both.1 seen s);
      more = both.0;
      room = c.offer.ensures.room;
      lender = c.offer.ensures.lender;
    }

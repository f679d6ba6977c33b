use Rattle.std.proofs.Common.{length, refl, ap, arith, rules}
use Rattle.frontier_pairs.proofs.InPlace.{moved_more}
use Rattle.frontier_pairs.proofs.choice.choose_in_place.Goals as goal

pub loop-i-preserved : goal.loop-i-preserved
loop-i-preserved c = (
  moved_more c.new-frontier.result.places.now c.places.result.now c.loop-i.frontier c.offer.new.self c.loop-i.i _ _ c.offer.result c.loop-i.invariant.0
      (omega (arith, ap length c.new-frontier.ensures.same)) c.places.ensures refl
      c.offer.ensures.value c.offer.ensures.smallest c.offer.ensures.beyond c.offer.ensures.room,
  search rules,
)

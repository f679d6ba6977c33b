use Rattle.std.proofs.Common.{arith}
use Rattle.std.proofs.lemmas.Bool.Decides.{not_from_Decides}
use Rattle.frontier.proofs.Turns.{compacting_leaves, compacting_stays}
use Rattle.frontier.proofs.passes.compact.Goals as goal
use Rattle.frontier.proofs.passes.compact.Goals.{then-not-covers, else-not-covers}

pub loop-i-preserved : goal.loop-i-preserved
loop-i-preserved g c =
    elim c.if-not-covers.branch [
      | then-not-covers w ↦ rw w.left-is
          (compacting_stays g.T.Covers.covers c.args.x.now c.index-kept-i.result c.loop-i.invariant
          (omega arith) c.index-kept-i.is (not_from_Decides _ c.covers.ensures w.if-not-covers.true))
      | else-not-covers w ↦ rw w.left-is
          (compacting_leaves g.T.Covers.covers c.args.x.now c.index-kept-i.result c.loop-i.invariant
          (omega arith) c.index-kept-i.is (c.covers.ensures.0 w.if-not-covers.false))
    ]

use Rattle.std.proofs.Common.{refl, subst, rules}
use Rattle.std.proofs.lemmas.Bool.Decides.{not_from_Decides}
use Rattle.frontier.specs.Cover.{Preorder, Covered}
use Rattle.frontier.specs.Places.{kept}
use Rattle.frontier.proofs.Growth.{offered_smallest}
use Rattle.frontier.proofs.Outcome.{offered-last, offered_long}
use Rattle.frontier.proofs.container.Frontier.offer.Given as given
use Rattle.frontier.proofs.container.Frontier.offer.Goals as goal

order : (g : given.Over) → Preorder g.T.Covers.covers
order g = record { reflexive = g.met.T.Covers.reflexive; transitive = g.met.T.Covers.transitive }

pub returns-then-is_covered-clause-smallest : goal.returns-then-is_covered-clause-smallest
returns-then-is_covered-clause-smallest g c = λ seen. offered_smallest (order g) (kept c.args.self.now) seen (kept c.args.self.now) c.args.x (search rules)

pub returns-then-full-clause-value : goal.returns-then-full-clause-value
returns-then-full-clause-value g c = (
  refl,
  offered_long g.T.Covers.covers c.args.x c.args.self.now.places.now c.args.self.now.count c.compact-left.new.kept c.compact-left.result
      (subst (λ l. Covered g.T.Covers.covers l c.args.x → ⊥) c.kept.ensures (not_from_Decides _ c.is_covered.ensures c.if-is_covered.false))
      c.compact-left.ensures.left c.compact-left.ensures.fewer c.compact-left.ensures.room c.if-full.true,
)

pub returns-clause-value : goal.returns-clause-value
returns-clause-value g c =
    offered-last g.T.Covers.covers c.args.x c.args.self.now.places.now c.args.self.now.count c.compact-left.new.kept c.compact-left.result
    (subst (λ l. Covered g.T.Covers.covers l c.args.x → ⊥) c.kept.ensures (not_from_Decides _ c.is_covered.ensures c.if-is_covered.false))
    c.compact-left.ensures.left c.compact-left.ensures.fewer c.compact-left.ensures.room c.if-full.false

pub returns-clause-smallest : goal.returns-clause-smallest
returns-clause-smallest g c = λ seen. offered_smallest (order g) (kept c.args.self.now) seen _ c.args.x (returns-clause-value g c)

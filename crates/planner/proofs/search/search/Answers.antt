use Rattle.std.proofs.Common.{◌≡◌, ℕ, ◌+◌, ◌*◌, ◌<◌, ◌≤◌, cond, List, [], ◌∷◌, length, sym, refl, ap, ◌∙◌, subst, inl, inr, arith, rules}
use Rattle.std.proofs.lemmas.List.{places}
use Rattle.std.proofs.lemmas.Slice.{overwrites}
use Rattle.planning.specs.declared.Stop.{Stop}
use Rattle.planning.specs.Moves.{label_at}
use Rattle.planning.proofs.Laws.{Setting}
use Rattle.planner.specs.declared.tour.Tour.{Tour}
use Rattle.planner.specs.Toured.{stops_of}
use Rattle.planner.specs.Candidates.{alive}
use Rattle.planner.specs.Outcome.{Ends, NoneEnds, Crowds}
use Rattle.planner.proofs.Paths.{row_within}
use Rattle.planner.proofs.Spans.{all_serviced}
use Rattle.planner.proofs.Turns.{turn_first, turn_sound, turn_ends, turn_last, turn_crowded, turn_next}
use Rattle.planner.proofs.search.search.Given.{Over}
use Rattle.planner.proofs.search.search.Goals as goal

set : (g : Over) (book : _) (tour : Tour) (stops : List Stop) → stops ≡ stops_of tour → 0 < length (stops_of tour) → Setting g.B.RuleBook.names g.B.RuleBook.after g.B.Row.Figures.better g.B.RuleBook.sound stops (g.B.RuleBook.figures book)
set g book tour stops same some = record {
  laws = record {
    reflexive = g.met.B.Row.Figures.reflexive;
    transitive = g.met.B.Row.Figures.transitive;
    rests = g.met.B.RuleBook.rests;
    keeps = g.met.B.RuleBook.keeps;
    relieves = g.met.B.RuleBook.relieves;
    endures = g.met.B.RuleBook.endures;
  };
  start-sound = g.met.B.RuleBook.bounded book;
  serviced = all_serviced tour stops same;
  some-stop = subst (λ s. 0 < length s) (sym same) some;
}

-- none end by the end of the span
over : (g : Over) (book : _) (now k : ℕ) {t span : ℕ} {stops stops' : List Stop} → t ≡ span → stops ≡ stops' → NoneEnds g.B.RuleBook.names g.B.RuleBook.after g.B.Row.Figures.better stops (g.B.RuleBook.figures book) now k t → NoneEnds g.B.RuleBook.names g.B.RuleBook.after g.B.Row.Figures.better stops' (g.B.RuleBook.figures book) now k span
over g book now k {t} {span} {stops} {stops'} whole same none =
    subst (λ n. NoneEnds g.B.RuleBook.names g.B.RuleBook.after g.B.Row.Figures.better stops' (g.B.RuleBook.figures book) now k n) whole
    (subst (λ s. NoneEnds g.B.RuleBook.names g.B.RuleBook.after g.B.Row.Figures.better s (g.B.RuleBook.figures book) now k t) same none)

pub loop-t-init : goal.loop-t-init
loop-t-init g c =
    let card = c.args.card.now in (
      omega arith,
      turn_first (set g card.book c.args.tour.now c.stops-stops.result.now c.stops-stops.ensures c.requires.some_stop) card.now c.args.size.width c.args.trail.now _ c.args.size.some
          (c.place_first-count.ensures.labels
          ∙ ap (λ n. cond (alive c.stops-stops.result.now n (label_at c.stops-stops.result.now 0 0 c.row.result)) (label_at c.stops-stops.result.now 0 0 c.row.result ∷ []) []) c.now.ensures
          ∙ ap (λ s. cond (alive c.stops-stops.result.now card.now (label_at c.stops-stops.result.now 0 0 s)) (label_at c.stops-stops.result.now 0 0 s ∷ []) []) c.row.ensures),
    )

pub find_serving-requires : goal.find_serving-requires
find_serving-requires g c =
    let card = c.args.card.now in
    turn_sound (set g card.book c.args.tour.now c.stops-stops.result.now c.stops-stops.ensures c.requires.some_stop) card.now c.args.size.width c.loop-t.invariant.1 _ c.split_at.ensures.front

pub returns-in-Some : goal.returns-in-Some
returns-in-Some g c =
    let card = c.args.card.now in
    subst (λ s. Ends g.B.RuleBook.names g.B.RuleBook.after g.B.Row.Figures.better s (g.B.RuleBook.figures card.book) card.now c.args.size.width c.args.size.span c.loop-t.trail c.loop-t.t c.in-Some.place) c.stops-stops.ensures
    (turn_ends (set g card.book c.args.tour.now c.stops-stops.result.now c.stops-stops.ensures c.requires.some_stop) card.now c.args.size.width c.loop-t.invariant.1 _ c.split_at.ensures.front (c.now-in-loop-t.result + c.loop-t.t) c.args.size.span c.in-Some.place (omega arith) c.loop-t-test.true c.in-Some.ensures.0 c.in-Some.ensures.1)

pub returns-then-t-span : goal.returns-then-t-span
returns-then-t-span g c =
    let card = c.args.card.now in
    let early : card.now + c.loop-t.t < 2688 = omega arith in
    let whole : c.loop-t.t + 1 ≡ c.args.size.span = omega arith in
    inl (
      refl,
      over g card.book card.now c.args.size.width whole c.stops-stops.ensures
          (turn_last (set g card.book c.args.tour.now c.stops-stops.result.now c.stops-stops.ensures c.requires.some_stop) card.now c.args.size.width c.loop-t.invariant.1 _ c.split_at.ensures.front (c.now-in-loop-t.result + c.loop-t.t) (omega arith) early c.in_default.ensures),
    )

pub expand-next-requires-clause-sound : goal.expand-next-requires-clause-sound
expand-next-requires-clause-sound g c =
    let card = c.args.card.now in
    turn_sound (set g card.book c.args.tour.now c.stops-stops.result.now c.stops-stops.ensures c.requires.some_stop) card.now c.args.size.width c.loop-t.invariant.1 _ c.split_at.ensures.front

pub returns-then-next-width : goal.returns-then-next-width
returns-then-next-width g c =
    let card = c.args.card.now in
    let early : card.now + c.loop-t.t < 2688 = omega arith in
    let more : c.loop-t.t + 1 < c.args.size.span = omega (arith, c.if-t-span.false) in
    inr (
      refl,
      subst (λ s. Crowds g.B.RuleBook.names g.B.RuleBook.after g.B.Row.Figures.better s (g.B.RuleBook.figures card.book) card.now c.args.size.width c.args.size.span) c.stops-stops.ensures
          (turn_crowded (set g card.book c.args.tour.now c.stops-stops.result.now c.stops-stops.ensures c.requires.some_stop) card.now c.args.size.width c.loop-t.invariant.1 _ c.split_at.ensures.front (c.now-in-loop-t.result + c.loop-t.t) (omega arith) early c.in_default.ensures _ c.expand-next.ensures.smallest c.args.size.span c.if-next-width.true more),
    )

pub slice_bounds-note_layer-end : goal.slice_bounds-note_layer-end
slice_bounds-note_layer-end g c =
    let fits = row_within c.loop-t.t c.args.size.span c.args.size.width (length c.expand-next.result.now) (length c.args.trail.now) c.loop-t-test.true c.if-next-width.false c.requires.trail_within in
    search rules

pub loop-t-preserved : goal.loop-t-preserved
loop-t-preserved g c =
    let card = c.args.card.now in
    let early : card.now + c.loop-t.t < 2688 = omega arith in
    let fits = row_within c.loop-t.t c.args.size.span c.args.size.width (length c.expand-next.result.now) (length c.loop-t.trail) c.loop-t-test.true c.if-next-width.false (omega arith) in (
      c.if-next-width.false,
      turn_next (set g card.book c.args.tour.now c.stops-stops.result.now c.stops-stops.ensures c.requires.some_stop) card.now c.args.size.width c.loop-t.invariant.1 _ c.split_at.ensures.front (c.now-in-loop-t.result + c.loop-t.t) (omega arith) early c.in_default.ensures _ c.expand-next.ensures.smallest c.if-next-width.false _
          (search (rules, overwrites))
          _
          (λ i below. let within : c.loop-t.t * c.args.size.width ≤ length c.loop-t.trail = omega arith in search (rules, places))
          (λ j d below. let there = c.note_layer.ensures j d below in search (rules, places)),
    )

pub returns : goal.returns
returns g c =
    let card = c.args.card.now in
    let whole : c.loop-t.t ≡ c.args.size.span = omega arith in
    inl (refl, over g card.book card.now c.args.size.width whole c.stops-stops.ensures (record { none = c.loop-t.invariant.1.unended; few = c.loop-t.invariant.1.needs }))

use Rattle.std.proofs.Common.{◌≡◌, ◌+◌, ◌-◌, ◌*◌, ◌<◌, length, set, ◌∙◌, subst, arith, rules}
use Rattle.std.proofs.lemmas.List.{drop-set-lt, length-set}
use Rattle.planner.proofs.Backward.{Writing, writing-first, writing_back, reads-within, writing-all}
use Rattle.planner.proofs.letters.write_letters.Goals as goal

pub loop-i-init : goal.loop-i-init
loop-i-init c =
    writing-first c.args.trail.now c.args.width c.args.t c.args.place c.args.output.now c.from.result c.from.ensures c.requires.led c.requires.place_within c.requires.room

pub offset_bounds-trail-i : goal.offset_bounds-trail-i
offset_bounds-trail-i c =
    let within : (c.loop-i.i - 1) * c.args.width + c.loop-i.label < length c.args.trail.now =
    reads-within c.args.trail.now c.args.width c.args.t c.loop-i.i c.loop-i.label c.loop-i-test.true (omega arith) c.loop-i.invariant.below c.requires.trail_within in
    search rules

pub bounds-trail-i : goal.bounds-trail-i
bounds-trail-i c = reads-within c.args.trail.now c.args.width c.args.t c.loop-i.i c.loop-i.label c.loop-i-test.true (omega arith) c.loop-i.invariant.below c.requires.trail_within

pub loop-i-preserved : goal.loop-i-preserved
loop-i-preserved c =
    let room : c.args.t < length (set c.args.output.now c.args.t c.from.result) = simp length-set c.requires.room in
    writing_back c.args.trail.now c.args.width c.args.t c.args.place (set c.args.output.now c.args.t c.from.result) c.loop-i.i c.loop-i.label c.loop-i.output c.decode-from.result.0 c.decode-from.result.1 c.from-in-loop-i.result c.from-in-loop-i.ensures c.loop-i-test.true (omega arith) room c.loop-i.invariant c.decode-from.ensures

pub returns : goal.returns
returns c =
    let none : c.loop-i.i ≡ 0 = omega arith in
    let past : c.args.t < c.args.t + 1 = omega arith in
    record {
      written = λ ls p. writing-all c.args.trail.now c.args.width c.args.t c.args.place (set c.args.output.now c.args.t c.from.result) c.loop-i.label c.loop-i.output
          (subst (λ i. Writing c.args.trail.now c.args.width c.args.t c.args.place (set c.args.output.now c.args.t c.from.result) i c.loop-i.label c.loop-i.output) none c.loop-i.invariant) ls p;
      beyond = c.loop-i.invariant.beyond ∙ drop-set-lt (c.args.t + 1) c.args.output.now c.args.t c.from.result past;
    }

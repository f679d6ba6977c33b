use Rattle.std.proofs.Common.{◌≡◌, eqb, [], ◌∷◌, ◌++◌, length, get_or, vec_items, sym, ap, ◌∙◌, subst, arith, rules}
use Rattle.std.proofs.lemmas.Fn.{always_returns_same}
use Rattle.std.proofs.lemmas.List.{append_assoc, append-nil, nil_from_length, length-append}
use Rattle.std.specs.Slice.Iter.{chunk_by_rest}
use Rattle.replies.specs.declared.runs.Run.{Run}
use Rattle.replies.specs.Schedules.{RunsFrom}
use Rattle.replies.proofs.Fronts.{run_step}
use Rattle.replies.proofs.runs.runs_of.Goals as goal

pub loop-equal-preserved : goal.loop-equal-preserved
loop-equal-preserved c =
    let step = c.in-Some.ensures.steps in
    let letters = c.in-Some.equal.now in
    let left = chunk_by_rest c.next.new.self in
    let run : Run = record { first = c.loop-equal.first; letter = get_or letters 0 0; count = length letters } in
    let cut = (step.2 eqb (always_returns_same _ _ _ (λ a r f k. search rules))).1 in (
      omega (arith, c.loop-equal.invariant.0, ap length step.0, length-append letters left),
      λ more k.
          let pushed : vec_items c.push.new.self ++ more ≡ vec_items c.loop-equal.runs ++ (run ∷ more) = ap (λ xs. xs ++ more) c.in_ok-push.ensures.items ∙ append_assoc (vec_items c.loop-equal.runs) (run ∷ []) more in
          subst (RunsFrom _ c.args.letters.now) (sym pushed)
          (c.loop-equal.invariant.1 (run ∷ more) (run_step c.loop-equal.first _ letters left more step.0 step.1 cut k)),
    )

pub returns : goal.returns
returns c =
    subst (RunsFrom _ c.args.letters.now) (append-nil (vec_items c.loop-equal.runs)) (c.loop-equal.invariant.1 [] (nil_from_length _ c.in-None.ensures.steps.0))

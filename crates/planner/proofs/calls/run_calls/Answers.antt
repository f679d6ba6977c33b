use Rattle.std.proofs.Common.{◌≡◌, [], ◌∷◌, ◌++◌, vec_items, sym, ap, ◌∙◌, subst}
use Rattle.std.proofs.lemmas.List.{append_assoc, append-nil, drop_more, drop_all}
use Rattle.planner.specs.declared.call.Call.TheVariants.{Record}
use Rattle.planner.specs.History.{fresh}
use Rattle.planner.specs.OfBooks.{KeptBy}
use Rattle.planner.proofs.calls.run_calls.Goals as goal

pub loop-call-init : goal.loop-call-init
loop-call-init g c = (
  fresh,
  record { state = c.new-card.ensures.row; recorded = tt; at = c.new-card.ensures.start; tour = c.new-tour.ensures },
  (λ rest k. subst (λ xs. KeptBy g.B.RuleBook g.B.Row.Figures c.args.book.now fresh c.args.calls.now (xs ++ rest)) (sym c.new-answers.ensures.items) k),
)

pub loop-call-preserved : goal.loop-call-preserved
loop-call-preserved g c =
    let inv = c.loop-call.invariant in
    let made = c.in_ok-answer.ensures (g.B.RuleBook.figures c.args.book.now) (g.met.B.RuleBook.bounded c.args.book.now) inv.0 inv.1 in
    let answer = c.in_ok-answer.answer in (
      made.0,
      made.2,
      (λ rest k.
          let pushed : vec_items c.push.new.self ++ rest ≡ vec_items c.loop-call.answers ++ (answer ∷ rest) = ap (λ xs. xs ++ rest) c.in_ok-push.ensures.items ∙ append_assoc (vec_items c.loop-call.answers) (answer ∷ []) rest in
          subst (KeptBy g.B.RuleBook g.B.Row.Figures c.args.book.now fresh c.args.calls.now) (sym pushed)
          (inv.2 (answer ∷ rest)
          (subst (λ cs. KeptBy g.B.RuleBook g.B.Row.Figures c.args.book.now inv.0 cs (answer ∷ rest)) (sym (drop_more c.args.calls.now c.loop-call.call-index (Record 0 0) c.loop-call-test.true))
          (made.0, made.1, k)))),
    )

pub returns : goal.returns
returns g c =
    let inv = c.loop-call.invariant in
    subst (KeptBy g.B.RuleBook g.B.Row.Figures c.args.book.now fresh c.args.calls.now) (append-nil (vec_items c.loop-call.answers))
    (inv.2 [] (subst (λ cs. KeptBy g.B.RuleBook g.B.Row.Figures c.args.book.now inv.0 cs []) (sym (drop_all _ c.args.calls.now c.loop-call-test.false)) tt))

use Rattle.std.proofs.Common.{◌≡◌, length, vec_items, sym, ap, ◌∙◌}
use Rattle.lines.specs.Texts.{calls_read}
use Rattle.planner.specs.History.{fresh}
use Rattle.replies.proofs.Histories.{kept-length}
use Rattle.replies.proofs.answer.reply_under.Goals as goal

pub spell_reply-requires : goal.spell_reply-requires
spell_reply-requires g c =
    let row = g.B.RuleBook.figures c.args.book.now in
    let calls : vec_items c.in_ok-calls.calls ≡ calls_read c.args.readings.now = c.in_ok-calls.ensures in
    ap length (sym calls ∙ sym c.as_slice.ensures.value)
    ∙ kept-length g.B.RuleBook.names g.B.RuleBook.after g.B.Row.Figures.better (g.B.RuleBook.opened row) (g.B.RuleBook.lawful row) fresh c.as_slice.result.now (vec_items c.in_ok-answers.answers) c.in_ok-answers.ensures
    ∙ ap length (sym c.as_slice-2.ensures.value)

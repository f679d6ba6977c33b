use Rattle.std.proofs.Common.{List, IfOk, vec_items, sym, subst, lit≤}
use Rattle.std.proofs.lemmas.Result.{IfOk-weaker}
use Rattle.books.specs.Piles.{us_row, eu_row}
use Rattle.lines.specs.Texts.{calls_read}
use Rattle.planner.specs.Promise.{Answer}
use Rattle.replies.specs.Promised.{KeptUnder}
use Rattle.replies.specs.Replies.{Replied}
use Rattle.replies.proofs.Named.{us_kept, eu-kept}
use Rattle.replies.proofs.answer.reply_by.Goals as goal

pub returns-in-Us7 : goal.returns-in-Us7
returns-in-Us7 c =
    let readings = c.args.readings.now in
    subst (λ s. IfOk c.reply_under.result (λ reply. (answers : List Answer) × KeptUnder s (calls_read readings) answers × Replied 1 readings answers (vec_items reply))) (sym c.in-Us7.is)
    (IfOk-weaker c.reply_under.result _ _
    (λ reply k. (k.0, us_kept 7 240 (lit≤ tt) (lit≤ tt) (us_row c.us7.result) c.us7.ensures (calls_read readings) k.0 k.1, k.2))
    c.reply_under.ensures)

pub returns-in-Us8 : goal.returns-in-Us8
returns-in-Us8 c =
    let readings = c.args.readings.now in
    subst (λ s. IfOk c.reply_under-in-Us8.result (λ reply. (answers : List Answer) × KeptUnder s (calls_read readings) answers × Replied 1 readings answers (vec_items reply))) (sym c.in-Us8.is)
    (IfOk-weaker c.reply_under-in-Us8.result _ _
    (λ reply k. (k.0, us_kept 8 280 (lit≤ tt) (lit≤ tt) (us_row c.us8.result) c.us8.ensures (calls_read readings) k.0 k.1, k.2))
    c.reply_under-in-Us8.ensures)

pub returns-in-Eu : goal.returns-in-Eu
returns-in-Eu c =
    let readings = c.args.readings.now in
    subst (λ s. IfOk c.reply_under-in-Eu.result (λ reply. (answers : List Answer) × KeptUnder s (calls_read readings) answers × Replied 1 readings answers (vec_items reply))) (sym c.in-Eu.is)
    (IfOk-weaker c.reply_under-in-Eu.result _ _
    (λ reply k. (k.0, eu-kept (eu_row c.eu.result) c.eu.ensures (calls_read readings) k.0 k.1, k.2))
    c.reply_under-in-Eu.ensures)

use Rattle.std.proofs.Common.{◌≡◌, ◌<◌, length, get_or, is_some, Some, sym, ap, arith, below_more, rules}
use Rattle.duty.specs.Duties.{duty_of}
use Rattle.rules.specs.Judged.{breach_at, lawful_length}
use Rattle.rules.proofs.Following.{follow_byte, follow_bytes}
use Rattle.rules.proofs.judge.judge.Goals as goal

pub loop-quarter-preserved : goal.loop-quarter-preserved
loop-quarter-preserved g c =
    let q = c.loop-quarter.quarter-counter in
    let short : q < 2688 = omega arith in
    let letter : Some c.in_ok-duty.duty ≡ duty_of (get_or c.args.log.now q 0) = c.in_ok-duty.ensures in
    let named : c.map.result ≡ breach_at q c.verdict.result = search rules in (
      below_more _ _ c.loop-quarter.invariant.0 (sym (ap is_some letter)),
      follow_byte g.B.RuleBook.names g.B.RuleBook.after _ c.args.log.now q c.in_ok-duty.duty _ _ c.verdict.result c.map.result _ _ c.loop-quarter-test.true short letter c.verdict.ensures named c.or-found.ensures c.step.ensures c.loop-quarter.invariant.1,
    )

pub returns : goal.returns
returns g c =
    let row = g.B.RuleBook.figures c.args.book.now in
    let met = g.met.B.RuleBook in
    let whole : c.map_or.result ≡ lawful_length c.loop-quarter.found (length c.args.log.now) = search rules in
    follow_bytes g.B.RuleBook.names g.B.RuleBook.after (g.B.RuleBook.opened row) (g.B.RuleBook.lawful row) (λ l short. met.judged row l (met.bounded c.args.book.now) short) c.args.log.now c.loop-quarter.quarter-counter _ _ _ c.if-log-gt-HORIZON.false c.loop-quarter-test.false c.loop-quarter.invariant.0 whole c.loop-quarter.invariant.1

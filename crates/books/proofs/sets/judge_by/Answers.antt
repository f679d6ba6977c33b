use Rattle.std.proofs.Common.{sym, subst, lit≤}
use Rattle.books.specs.Names.{sentences}
use Rattle.books.specs.Piles.{us_row, eu_row}
use Rattle.books.specs.Verdicts.{JudgedBy}
use Rattle.books.proofs.EuSets.{eu-judged}
use Rattle.books.proofs.UsSets.{us_judged}
use Rattle.books.proofs.sets.judge_by.Goals as goal

pub returns-in-Us7 : goal.returns-in-Us7
returns-in-Us7 c =
    subst (λ s. JudgedBy (sentences s) c.args.log.now c.judge.result) (sym c.in-Us7.is)
    (us_judged 7 240 (lit≤ tt) (lit≤ tt) (us_row c.us7.result) c.us7.ensures c.args.log.now c.judge.result c.judge.ensures)

pub returns-in-Us8 : goal.returns-in-Us8
returns-in-Us8 c =
    subst (λ s. JudgedBy (sentences s) c.args.log.now c.judge-in-Us8.result) (sym c.in-Us8.is)
    (us_judged 8 280 (lit≤ tt) (lit≤ tt) (us_row c.us8.result) c.us8.ensures c.args.log.now c.judge-in-Us8.result c.judge-in-Us8.ensures)

pub returns-in-Eu : goal.returns-in-Eu
returns-in-Eu c =
    subst (λ s. JudgedBy (sentences s) c.args.log.now c.judge-in-Eu.result) (sym c.in-Eu.is)
    (eu-judged (eu_row c.eu.result) c.eu.ensures c.args.log.now c.judge-in-Eu.result c.judge-in-Eu.ensures)

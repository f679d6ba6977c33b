use Rattle.std.proofs.Common.{◌≡◌, ◌+◌, [], ◌++◌, length, drop, Ok, vec_items, sym, refl, ap, ◌∙◌, subst, arith}
use Rattle.std.proofs.lemmas.List.{append_assoc, append-nil, drop_all, nil_from_length}
use Rattle.books.specs.declared.sets.RuleSet.TheVariants as set
use Rattle.lines.specs.declared.line.Line.TheVariants as line
use Rattle.lines.specs.Texts.{calls_read}
use Rattle.replies.specs.Replies.{Replied}
use Rattle.replies.proofs.Answering.{line_takes, calls_more, replied_more}
use Rattle.replies.proofs.reply.spell_reply.Goals as goal

pub loop-i-preserved : goal.loop-i-preserved
loop-i-preserved c =
    let readings = c.args.readings.now in
    let answers = c.args.answers.now in
    let i = c.loop-i.i in
    let written = c.in_ok-left.ensures in
    let lines = written.0 in (
      omega (arith, c.loop-i.invariant.0, calls_more readings i (Ok (line.Rules set.Us7)) c.loop-i-test.true, line_takes (i + 1) _ c.loop-i.left.now lines c.in_ok-left.left.now written.1),
      λ more k.
          let front : vec_items c.write_line.new.self.bytes ++ more ≡ vec_items c.loop-i.reply.bytes ++ (lines ++ more) = ap (λ xs. xs ++ more) written.2 ∙ append_assoc (vec_items c.loop-i.reply.bytes) lines more in
          subst (Replied 1 readings answers) (sym front)
          (c.loop-i.invariant.1 (lines ++ more) (replied_more (i + 1) readings i (Ok (line.Rules set.Us7)) c.loop-i.left.now c.in_ok-left.left.now lines more c.loop-i-test.true written.1 k)),
    )

pub returns : goal.returns
returns c =
    let readings = c.args.readings.now in
    let answers = c.args.answers.now in
    let i = c.loop-i.i in
    let none : drop i readings ≡ [] = drop_all i readings c.loop-i-test.false in
    let all : c.loop-i.left.now ≡ [] = nil_from_length c.loop-i.left.now (sym c.loop-i.invariant.0 ∙ ap (λ rs. length (calls_read rs)) none) in
    subst (Replied 1 readings answers) (append-nil (vec_items c.loop-i.reply.bytes))
    (c.loop-i.invariant.1 [] (subst (λ rs. Replied (i + 1) rs c.loop-i.left.now []) (sym none) (all, refl)))

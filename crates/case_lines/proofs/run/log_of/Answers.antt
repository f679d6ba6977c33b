use Rattle.std.proofs.Common.{rules, ◌≡◌, ◌-◌, min, replicate, length, vec_len, ap, length-append, ◌∷◌, [], ◌++◌, sym, subst, ◌∙◌, arith}
use Rattle.std.specs.Iterator.Adapters.{skip_source, skip_count}
use Rattle.std.specs.Str.Iter.{split_whitespace_rest, split_whitespace_steps}
use Rattle.case_lines.specs.Spelled.{NoRun, SpellsRun, SpellEach}
use Rattle.case_lines.proofs.Reading.{next_word, no_more_words, each_more, log_more}
use Rattle.case_lines.proofs.run.log_of.Goals as goal

pub loop-word-init : goal.loop-word-init
loop-word-init c =
    rw c.into_iter-word-iterator.ensures.into_iter_gives
    ([], [], c.skip-word-items.ensures.count, sym c.split_whitespace.ensures.rest ∙ ap split_whitespace_rest (sym c.skip-word-items.ensures.source), tt, c.new-log.ensures.items)

pub returns-in_default : goal.returns-in_default
returns-in_default c =
    let read = c.loop-word.invariant in
    let next = next_word split_whitespace_rest split_whitespace_steps (λ s t x h. h) read.0 c.args.line.now (skip_source c.loop-word.word-iterator) (skip_source c.next.new.self) (skip_count c.loop-word.word-iterator) c.in-Some.word read.2 read.3 c.in-Some.ensures.steps.1 in
    let none : (run : _) → SpellsRun c.in-Some.word.now run → ⊥ = λ run h. c.in_default.ensures run (subst (λ w. SpellsRun w run) (sym c.as_bytes.ensures.value) h) in
    let wrong : NoRun c.args.line.now = (next.0, c.in-Some.word.now, _, next.1, next.2, none) in
    search rules

pub loop-word-preserved : goal.loop-word-preserved
loop-word-preserved c =
    let read = c.loop-word.invariant in
    let word = c.in-Some.word.now in
    let run = c.in-Ok.run' in
    let next = next_word split_whitespace_rest split_whitespace_steps (λ s t x h. h) read.0 c.args.line.now (skip_source c.loop-word.word-iterator) (skip_source c.next.new.self) (skip_count c.loop-word.word-iterator) c.in-Some.word read.2 read.3 c.in-Some.ensures.steps.1 in
    let spelled : SpellsRun word run = subst (λ w. SpellsRun w run) c.as_bytes.ensures.value c.in-Ok.ensures in
    let more : c.append.new.log.items ≡ c.loop-word.log.items ++ replicate (min run.count (2689 - vec_len c.loop-word.log)) run.letter =
    rw c.in_ok-append.was at c.append.ensures
    in
    let long : vec_len c.loop-word.log ≡ length c.loop-word.log.items = omega (arith, c.loop-word.log.ok) in (
      next.0 ++ word ∷ [],
      read.1 ++ run ∷ [],
      omega (arith, c.in-Some.ensures.steps.0, next.1, length-append next.0 (word ∷ [])),
      next.2,
      subst (λ words. SpellEach words (read.1 ++ run ∷ [])) (sym next.3) (each_more _ read.1 word run read.4 spelled),
      log_more c.append.new.log.items c.loop-word.log.items read.1 run read.5 (more ∙ ap (λ n. c.loop-word.log.items ++ replicate (min run.count (2689 - n)) run.letter) long),
    )

pub returns : goal.returns
returns c =
    let read = c.loop-word.invariant in
    let last = no_more_words split_whitespace_rest split_whitespace_steps (λ s t x h. h) read.0 c.args.line.now (skip_source c.loop-word.word-iterator) (skip_source c.next.new.self) (skip_count c.loop-word.word-iterator) read.2 read.3 c.in-None.ensures.steps.1 in
    (last.0, split_whitespace_rest last.1, read.1, last.2, last.3.1, subst (λ words. SpellEach words read.1) (sym last.4) read.4, read.5)

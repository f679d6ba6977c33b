use Rattle.std.proofs.Common.{◌≡◌, ◌∷◌, [], sym, subst}
use Rattle.std.specs.Str.Iter.{split_whitespace_rest}
use Rattle.case_lines.specs.Spelled.{Begins}
use Rattle.case_lines.proofs.Reading.{begins_more}
use Rattle.case_lines.proofs.case.Case.of.Goals as goal

pub returns : goal.returns
returns c =
    let rest = split_whitespace_rest c.next.new.self in
    let first : Begins c.args.line.now (c.in-Some.name.now ∷ []) rest = begins_more [] c.args.line.now _ c.in-Some.name.now _ (sym c.split_whitespace.ensures.rest) c.in-Some.ensures.steps in
    let named : c.in-Some.name.now ≡ c.as_bytes.result.now = cc in
    ((rest, subst (λ word. Begins c.args.line.now (word ∷ []) rest) named first), rw c.in-Some-2.is at c.in_ok-log.ensures)

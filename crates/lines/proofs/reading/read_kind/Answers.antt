use Rattle.std.proofs.Common.{rules, ◌∷◌, ◌++◌, codes, sym, subst, arith}
use Rattle.std.proofs.lemmas.Slice.Eq.{text_from_reads}
use Rattle.lines.specs.Says.{Reads}
use Rattle.lines.proofs.reading.read_kind.Goals as goal

pub returns-in-done : goal.returns-in-done
returns-in-done c =
    subst (λ kind. Reads c.args.place (kind ++ 44 ∷ c.args.fields.now) c.read_done.result)
    (sym (text_from_reads c.args.kind.now (codes "done") (omega arith) (search rules)))
    (c.read_done.ensures c.args.place)

pub returns-in-stop : goal.returns-in-stop
returns-in-stop c =
    subst (λ kind. Reads c.args.place (kind ++ 44 ∷ c.args.fields.now) c.read_stop.result)
    (sym (text_from_reads c.args.kind.now (codes "stop") (omega arith) (search rules)))
    (c.read_stop.ensures c.args.place)

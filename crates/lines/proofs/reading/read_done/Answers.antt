use Rattle.std.proofs.Common.{[], ◌∷◌, decimal, refl, subst}
use Rattle.fields.proofs.Cutting.{lacks_not}
use Rattle.fields.specs.Cuts.{Lacks}
use Rattle.lines.proofs.Spellings.{done_parts, not_done}
use Rattle.lines.proofs.reading.read_done.Goals as goal

pub returns-in_default : goal.returns-in_default
returns-in_default c =
    λ place. (
      refl,
      not_done place c.args.fields.now (λ letter count plain few e. lacks_not 44 (letter ∷ []) (decimal count) (subst (Lacks 44) e c.in_default.ensures)),
    )

pub returns-in_default-single : goal.returns-in_default-single
returns-in_default-single c =
    λ place. (
      refl,
      not_done place c.args.fields.now
          (λ letter count plain few e.
          let parts = done_parts c.args.fields.now c.in-Some.letter.now c.in-Some.count.now c.in-Some.ensures letter count plain e in
          c.in_default-single.ensures letter parts.0),
    )

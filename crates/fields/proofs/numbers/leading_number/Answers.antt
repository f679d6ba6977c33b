use Rattle.std.proofs.Common.{decimal, sym, ◌∙◌, subst}
use Rattle.fields.proofs.Cutting.{lacks_not, parted_once}
use Rattle.fields.proofs.Numerals.{decimal_spells, lacks_comma}
use Rattle.fields.specs.Cuts.{Lacks}
use Rattle.fields.specs.Numbers.{Spells}
use Rattle.fields.proofs.numbers.leading_number.Goals as goal

pub returns-in_err-field : goal.returns-in_err-field
returns-in_err-field c =
    rw c.from_residual.ensures
    (λ n rest few e. lacks_not 44 (decimal n) rest (subst (Lacks 44) e c.in_err-field.ensures))

pub returns-in_err-number : goal.returns-in_err-number
returns-in_err-number c =
    rw c.from_residual-in_err-number.ensures
    (λ n rest few e.
    let cut = c.in_ok-field.ensures in
    let parts = parted_once 44 c.in_ok-field.field.now (decimal n) c.in_ok-field.rest.now rest cut.unbroken (lacks_comma n few) (sym cut.whole ∙ e) in
    c.in_err-number.ensures.value n (subst (λ f. Spells f n) (sym parts.0) (decimal_spells n few)))

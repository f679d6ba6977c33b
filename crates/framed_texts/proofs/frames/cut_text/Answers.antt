use Rattle.std.proofs.Common.{◌∷◌, [], Some, None, sym, subst, ◌∙◌, arith}
use Rattle.std.proofs.lemmas.Bool.Decides.{Decides-eqb}
use Rattle.std.proofs.lemmas.Slice.Eq.{strip_prefix_is}
use Rattle.fields.specs.Numbers.{Spells}
use Rattle.framed_texts.proofs.Framing.{unended, cut_once, text_stands, stands_framed}
use Rattle.framed_texts.proofs.frames.cut_text.Goals as goal

pub returns-in_err-digits : goal.returns-in_err-digits
returns-in_err-digits c =
    rw c.from_residual.ensures
    (λ text rest h. unended c.args.stream.now text rest c.in_err-digits.ensures h)

pub returns-in_err-read_number : goal.returns-in_err-read_number
returns-in_err-read_number c =
    rw c.from_residual-in_err-read_number.ensures
    (λ text rest h. c.in_err-read_number.ensures.value _ (cut_once c.args.stream.now c.in_ok-digits.digits.now c.in_ok-digits.after.now text rest c.in_ok-digits.ensures h).0)

pub returns-in_err-text : goal.returns-in_err-text
returns-in_err-text c =
    rw c.from_residual-in_err-text.ensures
    (λ text rest h.
    let spelled = subst (Spells c.in_ok-digits.digits.now) (sym c.from-length.ensures) c.in_ok-read_number.ensures.value in
    let stands = text_stands c.args.stream.now c.in_ok-digits.digits.now c.in_ok-digits.after.now text rest c.from-length.result c.in_ok-digits.ensures spelled h in
    omega (arith, stands.0, c.in_err-text.ensures.cases))

pub returns-in_err-rest : goal.returns-in_err-rest
returns-in_err-rest c =
    rw c.from_residual-in_err-rest.ensures
    (λ text rest h.
    let spelled = subst (Spells c.in_ok-digits.digits.now) (sym c.from-length.ensures) c.in_ok-read_number.ensures.value in
    let stands = text_stands c.args.stream.now c.in_ok-digits.digits.now c.in_ok-digits.after.now text rest c.from-length.result c.in_ok-digits.ensures spelled h in
    strip_prefix_is Decides-eqb c.in_ok-text.rest.now (10 ∷ []) None c.in_err-rest.ensures.cases rest (c.in_ok-text.ensures.cases.2 ∙ stands.1))

pub returns : goal.returns
returns c =
    stands_framed c.args.stream.now c.in_ok-digits.digits.now c.in_ok-digits.after.now c.in_ok-text.text.now c.in_ok-text.rest.now c.in_ok-rest.rest.now c.from-length.result c.in_ok-digits.ensures
    (subst (Spells c.in_ok-digits.digits.now) (sym c.from-length.ensures) c.in_ok-read_number.ensures.value)
    (omega (arith, c.from-length.ensures, c.in_ok-read_number.ensures.bound))
    c.in_ok-text.ensures.cases
    (strip_prefix_is Decides-eqb c.in_ok-text.rest.now (10 ∷ []) (Some c.in_ok-rest.rest) c.in_ok-rest.ensures.cases)

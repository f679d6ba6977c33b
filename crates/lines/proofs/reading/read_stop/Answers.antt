use Rattle.std.proofs.Common.{◌∷◌, ◌++◌, decimal, sym, refl, ap, ◌∙◌, subst}
use Rattle.fields.proofs.Numerals.{decimal_spells, spells_decimal, led_once}
use Rattle.fields.specs.Numbers.{Spells}
use Rattle.lines.proofs.Spellings.{stop_reads, not_stop}
use Rattle.lines.proofs.reading.read_stop.Goals as goal

pub returns-in_default-leading_number : goal.returns-in_default-leading_number
returns-in_default-leading_number c =
    λ place. (
      refl,
      not_stop place c.args.fields.now
          (λ stop fits e.
          let one = c.in-Some.ensures in
          let first = led_once c.in-Some.drive stop.drive _ _ one.0 fits.0 (sym one.1 ∙ e) in
          c.in_default-leading_number.ensures stop.service _ fits.1 first.1),
    )

pub returns-in_default-leading_number-2 : goal.returns-in_default-leading_number-2
returns-in_default-leading_number-2 c =
    λ place. (
      refl,
      not_stop place c.args.fields.now
          (λ stop fits e.
          let one = c.in-Some.ensures in
          let two = c.in-Some-leading_number.ensures in
          let first = led_once c.in-Some.drive stop.drive _ _ one.0 fits.0 (sym one.1 ∙ e) in
          let second = led_once c.in-Some-leading_number.service stop.service _ _ two.0 fits.1 (sym two.1 ∙ first.1) in
          c.in_default-leading_number-2.ensures stop.opens _ fits.2 second.1),
    )

pub returns-in_default-read_number : goal.returns-in_default-read_number
returns-in_default-read_number c =
    λ place. (
      refl,
      not_stop place c.args.fields.now
          (λ stop fits e.
          let one = c.in-Some.ensures in
          let two = c.in-Some-leading_number.ensures in
          let three = c.in-Some-leading_number-2.ensures in
          let first = led_once c.in-Some.drive stop.drive _ _ one.0 fits.0 (sym one.1 ∙ e) in
          let second = led_once c.in-Some-leading_number.service stop.service _ _ two.0 fits.1 (sym two.1 ∙ first.1) in
          let third = led_once c.in-Some-leading_number-2.opens stop.opens _ _ three.0 fits.2 (sym three.1 ∙ second.1) in
          c.in_default-read_number.ensures.value stop.closes (subst (λ f. Spells f stop.closes) (sym third.1) (decimal_spells stop.closes fits.3))),
    )

pub returns : goal.returns
returns c =
    λ place.
    let one = c.in-Some.ensures in
    let two = c.in-Some-leading_number.ensures in
    let three = c.in-Some-leading_number-2.ensures in
    let four = c.in-Some-read_number.ensures in
    let drive = decimal c.in-Some.drive in
    let service = decimal c.in-Some-leading_number.service in
    let opens = decimal c.in-Some-leading_number-2.opens in
    stop_reads place c.args.fields.now _ (one.0, two.0, three.0, four.bound)
    (one.1
    ∙ ap (λ xs. drive ++ 44 ∷ xs) (two.1 ∙ ap (λ xs. service ++ 44 ∷ xs) (three.1 ∙ ap (λ xs. opens ++ 44 ∷ xs) (spells_decimal _ _ four.value))))

use Rattle.std.proofs.Common.{◌≤◌, length, rules, arith, Some, None}
use Rattle.std.proofs.lemmas.Grind.{common_steps}
use Rattle.fields.specs.Numbers.{Spells}
use Rattle.fields.proofs.Numerals.{read_back, spells_small}
use Rattle.fields.proofs.numbers.read_number.Goals as goal

pub returns-then-is_empty-clause-inverse : goal.returns-then-is_empty-clause-inverse
returns-then-is_empty-clause-inverse c = read_back c.args.field.now None (search rules)

pub returns-then-not-is_ascii_digit-clause-inverse : goal.returns-then-not-is_ascii_digit-clause-inverse
returns-then-not-is_ascii_digit-clause-inverse c = read_back c.args.field.now None (search rules)

pub returns : goal.returns
returns c =
    let few : length c.args.field.now ≤ 4 = omega arith in
    let taken : Spells c.args.field.now c.loop-digit.number = grind (arith, common_steps) in
    record { value = taken; inverse = read_back c.args.field.now (Some c.loop-digit.number) taken; bound = spells_small c.args.field.now c.loop-digit.number taken }

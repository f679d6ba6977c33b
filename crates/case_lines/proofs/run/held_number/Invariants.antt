use Rattle.std.proofs.Common.{◌≡◌, ℕ, ◌<◌, min, get_or, take}
use Rattle.std.specs.Int.{IsInRange}
use Rattle.std.specs.Str.Parse.{digits_value}
use Rattle.case_lines.proofs.run.held_number.Given as goal

abbrev pub invariant-loop-digit : goal.invariant-loop-digit
invariant-loop-digit l = record {
  number : l.number ≡ min 2689 (digits_value 10 (take l.digit-index l.digits));
  plain : (k : ℕ) → k < l.digit-index → IsInRange 48 57 (get_or l.digits k 0);
}

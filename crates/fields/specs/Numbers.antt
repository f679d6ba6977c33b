-- Numbers in fields. Assumes nothing.
--   Spells field n       the field spells n: 1 to 4 digits, with no needless 0 in front
use Rattle.std.specs.Prelude.{◌≡◌, ℕ, ◌<◌, ◌≤◌, List, length, slice_index, slice_index_or}
use Rattle.std.specs.Str.Parse.{digits_value}
use Rattle.std.specs.Int.{IsInRange}

pub record Spells (field : List ℕ) (n : ℕ) : Type 0 where
  pub some : 0 < length field
  pub few : length field ≤ 4
  -- each byte is one of the digits 0 to 9
  pub digits : (k : ℕ) → k < length field → IsInRange 48 57 (slice_index field k)
  pub plain : slice_index_or field 0 0 ≡ 48 → length field ≡ 1
  pub number : n ≡ digits_value 10 field

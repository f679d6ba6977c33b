-- The number of each refusal.
use Rattle.std.specs.Prelude.{ℕ}
use Rattle.frontier.specs.declared.refusal.Refusal.{Refusal}
use Rattle.frontier.specs.declared.refusal.Refusal.TheVariants as why

abbrev pub number : Refusal → ℕ
number why.Full = 11

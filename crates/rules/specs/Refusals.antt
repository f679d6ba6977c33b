-- The number of each refusal, and how refusals are spelled. Assumes nothing.
--   number r            its number
--   spelled_breach b    a breach's quarter, rule and layer in decimal digits, with commas between them
--   spelled r           the refusal's number in decimal digits, and for a breach what spells that after one more comma
use Rattle.std.specs.Prelude.{ℕ, List, [], ◌++◌, codes, decimal}
use Rattle.rules.specs.declared.breach.Breach.{Breach}
use Rattle.rules.specs.declared.refusal.Refusal.{Refusal}
use Rattle.rules.specs.declared.refusal.Refusal.TheVariants as why

abbrev pub number : Refusal → ℕ
number why.Letter = 1
number why.Horizon = 2
number (why.Breach b) = 3
number why.TourFull = 4
number why.Field = 5
number why.NoStop = 6
number why.Sheet = 7
number why.Trail = 8
number why.Output = 9
number why.NoSchedule = 10
number why.Labels = 11
number why.Spelling = 12

abbrev pub spelled_breach : Breach → List ℕ
spelled_breach b = decimal b.quarter ++ (codes "," ++ (decimal b.rule ++ (codes "," ++ decimal b.layer)))

-- what a breach adds to the number
abbrev pub added : Refusal → List ℕ
added why.Letter = []
added why.Horizon = []
added (why.Breach b) = codes "," ++ spelled_breach b
added why.TourFull = []
added why.Field = []
added why.NoStop = []
added why.Sheet = []
added why.Trail = []
added why.Output = []
added why.NoSchedule = []
added why.Labels = []
added why.Spelling = []

abbrev pub spelled : Refusal → List ℕ
spelled r = decimal (number r) ++ added r

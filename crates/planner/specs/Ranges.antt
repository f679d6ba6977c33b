-- Which stops a tour can have. Assumes nothing.
--   InRange stop             the stop's figures are within the horizon
--   AllInRange stops count   so are the first count stops
use Rattle.std.specs.Prelude.{ℕ, ◌+◌, ◌<◌, ◌≤◌, List}
use Rattle.planning.specs.declared.Stop.{Stop}
use Rattle.planning.specs.Labels.{stop_at}

abbrev pub InRange : Stop → Type 0
InRange s = (s.drive ≤ 672) × (1 ≤ s.service) × (s.service ≤ 32) × (s.opens ≤ s.closes) × (s.closes + s.service ≤ 2688)

abbrev pub AllInRange : List Stop → ℕ → Type 0
AllInRange stops count = (i : ℕ) → i < count → InRange (stop_at stops i)

-- When letters serve a tour. Assumes nothing.
--   tally p ls           how many of the statuses have p
--   Travels n ls         driving for exactly n quarters and rest, in any order, and no work
--   Serves stops q ls    from quarter q on, ls is one stretch a stop, in order: travel with just the stop's driving, then its
--                        service as unbroken work, whose first quarter lies from open through close
use Rattle.std.specs.Prelude.{◌≡◌, ℕ, ◌+◌, ◌≤◌, Bool, true, false, cond, List, [], ◌∷◌, ◌++◌, length, replicate}
use Rattle.duty.specs.declared.Duty.{Duty}
use Rattle.duty.specs.declared.Duty.TheVariants.{Rest, Work, Drive}
use Rattle.duty.specs.Duties.{driving}
use Rattle.planning.specs.declared.Stop.{Stop}

-- work other than driving
abbrev pub at_work : Duty → Bool
at_work Rest = false
at_work Work = true
at_work Drive = false

abbrev pub tally : (Duty → Bool) → List Duty → ℕ
tally p [] = 0
tally p (x ∷ xs) = cond (p x) 1 0 + tally p xs

abbrev pub Travels : ℕ → List Duty → Type 0
Travels n ls = (tally at_work ls ≡ 0) × (tally driving ls ≡ n)

-- the service may begin at the quarter
abbrev pub InWindow : Stop → ℕ → Type 0
InWindow stop q = (stop.opens ≤ q) × (q ≤ stop.closes)

pub record Stretch (stop : Stop) (q : ℕ) (travel : List Duty) : Type 0 where
  pub travels : Travels stop.drive travel
  pub window : InWindow stop (q + length travel)

abbrev pub Serves : List Stop → ℕ → List Duty → Type 0
Serves [] q ls = ls ≡ []
Serves (stop ∷ stops) q ls =
    (travel : List Duty) × (rest : List Duty) × (ls ≡ travel ++ replicate stop.service Work ++ rest) × Stretch stop q travel × Serves stops (q + length travel + stop.service) rest

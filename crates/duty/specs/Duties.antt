-- The letters of the duty statuses, and which statuses rest, drive and are on duty. Assumes nothing.
use Rattle.std.specs.Prelude.{◌≡◌, ℕ, ◌<◌, Bool, true, false, cond, List, map, length, is_some, Some, None, Option, ◌==◌, slice_index}
use Rattle.std.specs.Option.{unwrap_or}
use Rattle.duty.specs.declared.Duty.{Duty}
use Rattle.duty.specs.declared.Duty.TheVariants.{Rest, Work, Drive}

-- R, W and D, by their bytes
abbrev pub letter_of : Duty → ℕ
letter_of Rest = 82
letter_of Work = 87
letter_of Drive = 68

-- the status that a byte spells, if any
abbrev pub duty_of : ℕ → Option Duty
duty_of b = cond (b == 82) (Some Rest) (cond (b == 87) (Some Work) (cond (b == 68) (Some Drive) None))

abbrev pub resting : Duty → Bool
resting Rest = true
resting Work = false
resting Drive = false

abbrev pub driving : Duty → Bool
driving Rest = false
driving Work = false
driving Drive = true

-- on duty: work or driving
abbrev pub working : Duty → Bool
working Rest = false
working Work = true
working Drive = true

-- every byte is a letter
abbrev pub Letters : List ℕ → Type 0
Letters bytes = (k : ℕ) → k < length bytes → is_some (duty_of (slice_index bytes k)) ≡ true

-- the log that letters spell
abbrev pub spelt : List ℕ → List Duty
spelt bytes = map (λ b. unwrap_or (duty_of b) Rest) bytes

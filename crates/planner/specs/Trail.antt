-- The trail: where each kept label came from. Assumes nothing.
--   entry j x            what is noted of a label that came from the j-th by the status x
--   Path trail k t j ls  from the j-th label of layer t, the trail leads back over the statuses ls; a layer has k places
use Rattle.std.specs.Prelude.{◌≡◌, ℕ, zero, suc, ◌+◌, ◌*◌, ◌<◌, List, [], ◌∷◌, ◌++◌, slice_index}
use Rattle.duty.specs.declared.Duty.{Duty}
use Rattle.duty.specs.declared.Duty.TheVariants.{Rest, Work, Drive}

abbrev pub duty_code : Duty → ℕ
duty_code Rest = 0
duty_code Work = 1
duty_code Drive = 2

abbrev pub entry : ℕ → Duty → ℕ
entry j x = 4 * j + duty_code x

abbrev pub Path : List ℕ → ℕ → ℕ → ℕ → List Duty → Type 0
Path trail k zero j ls = ls ≡ []
Path trail k (suc t) j ls =
    (i : ℕ) × (x : Duty) × (front : List Duty) × (i < k) × (slice_index trail (t * k + j) ≡ entry i x) × Path trail k t i front × (ls ≡ front ++ x ∷ [])

-- What the paths of a trail keep. Assumes nothing.
--   entry-same           the entry of a label says which label and which status it came from
--   path-length          a path from layer t has t statuses
--   place_below          a place of layer t stands before the next layer's
--   row_within           a layer of the span lies within the trail
--   path_keep            a path from layer t reads the trail below t * k alone
--   path_more            a path to the i-th label of layer t, one layer on
use Rattle.std.proofs.Common.{◌≡◌, ℕ, zero, suc, ◌+◌, ◌*◌, ◌<◌, ◌≤◌, List, [], ◌∷◌, ◌++◌, length, get_or, refl, ap, ◌∙◌, mul-le-mul_right, arith}
use Rattle.std.proofs.lemmas.List.{length_push}
use Rattle.duty.specs.declared.Duty.{Duty}
use Rattle.duty.specs.declared.Duty.TheVariants.{Rest, Work, Drive}
use Rattle.planner.specs.Trail.{entry, Path}

pub entry-same : (i j : ℕ) (x y : Duty) → entry i x ≡ entry j y → (i ≡ j) × (x ≡ y)
entry-same i j Rest Rest e = (omega arith, refl)
entry-same i j Rest Work e = absurd (omega arith)
entry-same i j Rest Drive e = absurd (omega arith)
entry-same i j Work Rest e = absurd (omega arith)
entry-same i j Work Work e = (omega arith, refl)
entry-same i j Work Drive e = absurd (omega arith)
entry-same i j Drive Rest e = absurd (omega arith)
entry-same i j Drive Work e = absurd (omega arith)
entry-same i j Drive Drive e = (omega arith, refl)

pub path-length : (trail : List ℕ) (k t j : ℕ) (ls : List Duty) → Path trail k t j ls → length ls ≡ t
path-length trail k zero j ls e = ap length e
path-length trail k (suc t) j ls (i, x, front, lt, e, p, whole) =
    omega (arith, ap length whole, length_push front x, path-length trail k t i front p)

pub place_below : (t k j : ℕ) → j < k → t * k + j < suc t * k
place_below t k j h = omega arith

pub row_within : (t span k n room : ℕ) → t < span → n ≤ k → span * k ≤ room → t * k + n ≤ room
row_within t span k n room lt few fits = let rows : suc t * k ≤ span * k = mul-le-mul_right k lt in omega arith

pub path_keep : (trail trail' : List ℕ) (k t j : ℕ) (ls : List Duty) → ((i : ℕ) → i < t * k → get_or trail' i 0 ≡ get_or trail i 0) → j < k → Path trail k t j ls → Path trail' k t j ls
path_keep trail trail' k zero j ls same h e = e
path_keep trail trail' k (suc t) j ls same h (i, x, front, lt, e, p, whole) = (
  i,
  x,
  front,
  lt,
  same (t * k + j) (place_below t k j h) ∙ e,
  path_keep trail trail' k t i front (λ n below. same n (omega (arith, place_below t k j h))) lt p,
  whole,
)

pub path_more : (trail : List ℕ) (k t i j : ℕ) (x : Duty) (front : List Duty) → i < k → get_or trail (t * k + j) 0 ≡ entry i x → Path trail k t i front → Path trail k (suc t) j (front ++ x ∷ [])
path_more trail k t i j x front lt e p = (i, x, front, lt, e, p, refl)

-- The letters of a schedule, written from the last quarter back: what stands in the output before turn i.
use Rattle.std.proofs.Common.{◌≡◌, ℕ, zero, suc, ◌+◌, ◌-◌, ◌*◌, ◌<◌, ◌≤◌, List, [], ◌∷◌, ◌++◌, map, length, get_or, take, drop, set, sym, refl, ap, ◌∙◌, subst, mul-le-mul_right, add-one, arith}
use Rattle.std.proofs.lemmas.List.{append_assoc, map-append, drop-set, drop-set-lt, length-set}
use Rattle.duty.specs.declared.Duty.{Duty}
use Rattle.duty.specs.declared.Duty.TheVariants.{Work}
use Rattle.duty.specs.Duties.{letter_of}
use Rattle.planner.specs.Trail.{entry, Path}
use Rattle.planner.proofs.Paths.{entry-same, place_below}

pub path_unique : (trail : List ℕ) (k t j : ℕ) (ls rs : List Duty) → Path trail k t j ls → Path trail k t j rs → ls ≡ rs
path_unique trail k zero j ls rs p r = p ∙ sym r
path_unique trail k (suc t) j ls rs p r =
    let same = entry-same p.0 r.0 p.1 r.1 (sym p.4 ∙ r.4) in
    let fronts = path_unique trail k t p.0 p.2 r.2 p.5 (subst (λ i. Path trail k t i r.2) (sym same.0) r.5) in
    p.6 ∙ ap (λ f. f ++ p.1 ∷ []) fronts ∙ ap (λ x. r.2 ++ x ∷ []) same.1 ∙ sym r.6

pub record Writing (trail : List ℕ) (width t place : ℕ) (first : List ℕ) (i label : ℕ) (out : List ℕ) : Type 0 where
  pub front : List Duty
  pub path : Path trail width i label front
  pub below : label < width
  pub whole : (ls : List Duty) → Path trail width t place ls → map letter_of (ls ++ Work ∷ []) ≡ map letter_of front ++ take (t + 1 - i) (drop i out)
  pub beyond : drop (t + 1) out ≡ drop (t + 1) first
  pub long : length out ≡ length first

one : (xs : List ℕ) (i n v : ℕ) → i < length xs → take (suc n) (drop i (set xs i v)) ≡ v ∷ take n (drop (i + 1) xs)
one xs i n v h = ap (take (suc n)) (drop-set xs i v h)

pub writing-first : (trail : List ℕ) (width t place : ℕ) (out : List ℕ) (v : ℕ) → v ≡ letter_of Work → ((ls : List Duty) × Path trail width t place ls) → place < width → t < length out → Writing trail width t place (set out t v) t place (set out t v)
writing-first trail width t place out v letter led below room =
    let once : t + 1 - t ≡ suc 0 = omega arith in
    record {
      front = led.0;
      path = led.1;
      below = below;
      whole = λ ls p.
          ap (λ l. map letter_of (l ++ Work ∷ [])) (path_unique trail width t place ls led.0 p led.1)
          ∙ map-append letter_of led.0 (Work ∷ [])
          ∙ ap (λ w. map letter_of led.0 ++ w ∷ []) (sym letter)
          ∙ ap (λ xs. map letter_of led.0 ++ xs) (sym (ap (λ n. take n (drop t (set out t v))) once ∙ one out t 0 v room));
      beyond = refl;
      long = refl;
    }

pub writing_more : (trail : List ℕ) (width t place : ℕ) (first : List ℕ) (i label : ℕ) (out : List ℕ) (from : ℕ) (duty : Duty) → i < t → t < length first → Writing trail width t place first (i + 1) label out → ((j : ℕ) (x : Duty) → get_or trail (i * width + label) 0 ≡ entry j x → (from ≡ j) × (duty ≡ x)) → Writing trail width t place first i from (set out i (letter_of duty))
writing_more trail width t place first i label out from duty lt room w decoded =
    let p : Path trail width (suc i) label w.front = subst (λ n. Path trail width n label w.front) (add-one i) w.path in
    let same = decoded p.0 p.1 p.4 in
    let v : ℕ = letter_of duty in
    let once : t + 1 - i ≡ suc (t + 1 - (i + 1)) = omega arith in
    record {
      front = p.2;
      path = subst (λ j. Path trail width i j p.2) (sym same.0) p.5;
      below = subst (λ j. j < width) (sym same.0) p.3;
      whole = λ ls q.
          w.whole ls q
          ∙ ap (λ f. map letter_of f ++ take (t + 1 - (i + 1)) (drop (i + 1) out)) p.6
          ∙ ap (λ xs. xs ++ take (t + 1 - (i + 1)) (drop (i + 1) out)) (map-append letter_of p.2 (p.1 ∷ []))
          ∙ append_assoc (map letter_of p.2) (letter_of p.1 ∷ []) _
          ∙ ap (λ x. map letter_of p.2 ++ letter_of x ∷ take (t + 1 - (i + 1)) (drop (i + 1) out)) (sym same.1)
          ∙ ap (λ xs. map letter_of p.2 ++ xs) (sym (ap (λ n. take n (drop i (set out i v))) once ∙ one out i (t + 1 - (i + 1)) v (omega (arith, w.long))));
      beyond = drop-set-lt (t + 1) out i v (omega arith) ∙ w.beyond;
      long = length-set out i v ∙ w.long;
    }

-- the same for the turn that leaves i - 1
pub writing_back : (trail : List ℕ) (width t place : ℕ) (first : List ℕ) (i label : ℕ) (out : List ℕ) (from : ℕ) (duty : Duty) (v : ℕ) → v ≡ letter_of duty → 0 < i → i ≤ t → t < length first → Writing trail width t place first i label out → ((j : ℕ) (x : Duty) → get_or trail ((i - 1) * width + label) 0 ≡ entry j x → (from ≡ j) × (duty ≡ x)) → Writing trail width t place first (i - 1) from (set out (i - 1) v)
writing_back trail width t place first i label out from duty v letter some most room w decoded =
    let same : i ≡ i - 1 + 1 = omega arith in
    subst (λ u. Writing trail width t place first (i - 1) from (set out (i - 1) u)) (sym letter)
    (writing_more trail width t place first (i - 1) label out from duty (omega arith) room (subst (λ n. Writing trail width t place first n label out) same w) decoded)

-- where the trail is read
pub reads-within : (trail : List ℕ) (width t i label : ℕ) → 0 < i → i ≤ t → label < width → t * width ≤ length trail → (i - 1) * width + label < length trail
reads-within trail width t i label some most below within =
    let here = place_below (i - 1) width label below in
    let same : suc (i - 1) ≡ i = omega arith in
    let whole : suc (i - 1) * width ≤ t * width = subst (λ n. n * width ≤ t * width) (sym same) (mul-le-mul_right width most) in
    omega arith

pub writing-all : (trail : List ℕ) (width t place : ℕ) (first : List ℕ) (label : ℕ) (out : List ℕ) → Writing trail width t place first 0 label out → (ls : List Duty) → Path trail width t place ls → take (t + 1) out ≡ map letter_of (ls ++ Work ∷ [])
writing-all trail width t place first label out w ls p =
    sym (w.whole ls p ∙ ap (λ f. map letter_of f ++ take (t + 1 - 0) out) w.path ∙ ap (λ n. take n out) (omega arith))

-- The end that the search found, as a schedule: its letters, and that no others end earlier.
use Rattle.std.proofs.Common.{◌≡◌, ℕ, ◌+◌, List, [], ◌∷◌, ◌++◌, map, length, take, Option, ap, ◌∙◌, ⊎_elim, arith}
use Rattle.std.proofs.lemmas.List.{length_push}
use Rattle.std.proofs.lemmas.Bool.{cases_lt}
use Rattle.duty.specs.declared.Duty.{Duty}
use Rattle.duty.specs.declared.Duty.TheVariants.{Work}
use Rattle.duty.specs.Duties.{letter_of}
use Rattle.rules.specs.declared.breach.Violation.{Violation}
use Rattle.planning.specs.declared.Stop.{Stop}
use Rattle.planner.specs.Outcome.{Ends}
use Rattle.planner.specs.Plans.{Schedule}
use Rattle.planner.specs.Trail.{Path}
use Rattle.planner.proofs.Paths.{path-length}

pub ends-schedule : {R : Type 0} (names : R → ℕ → Duty → Option Violation) (after : R → ℕ → Duty → R) (better : R → R → Type 0) (stops : List Stop) (start : R) (now k len : ℕ) (trail : List ℕ) (t j : ℕ) → Ends names after better stops start now k len trail t j → (out : List ℕ) → ((ls : List Duty) → Path trail k t j ls → take (t + 1) out ≡ map letter_of (ls ++ Work ∷ [])) → (e : ℕ) → e ≡ now + t + 1 → Schedule names after better stops start now k out e
ends-schedule names after better stops start now k len trail t j x out written e end =
    let long : length (x.letters ++ Work ∷ []) ≡ t + 1 = length_push x.letters Work ∙ ap (λ n. n + 1) (path-length trail k t j x.letters x.path) in
    record {
      letters = x.letters ++ Work ∷ [];
      end = omega arith;
      written = ap (λ n. take n out) long ∙ written x.letters x.path;
      allowed = x.allowed;
      serves = x.serves;
      least = λ ls a s. ⊎_elim (λ late. omega arith) (λ early. absurd (x.first ls a s early)) (cases_lt (now + t) (now + length ls));
      few = λ u early. x.few u (omega arith);
    }

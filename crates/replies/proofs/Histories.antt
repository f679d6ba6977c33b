-- A run of calls that is kept has an answer to each call.
use Rattle.std.proofs.Common.{◌≡◌, ℕ, suc, List, [], ◌∷◌, length, Option, refl, ap}
use Rattle.duty.specs.declared.Duty.{Duty}
use Rattle.rules.specs.declared.breach.Violation.{Violation}
use Rattle.planner.specs.declared.call.Call.{Call}
use Rattle.planner.specs.History.{History}
use Rattle.planner.specs.Promise.{Answer, Kept}

pub kept-length : {R : Type 0} (names : R → ℕ → Duty → Option Violation) (after : R → ℕ → Duty → R) (better : R → R → Type 0) (opened : R) (lawful : List Duty → Type 0) (h : History) (calls : List Call) (answers : List Answer) → Kept names after better opened lawful h calls answers → length calls ≡ length answers
kept-length names after better opened lawful h [] [] k = refl
kept-length names after better opened lawful h [] (a ∷ answers) k = absurd k
kept-length names after better opened lawful h (c ∷ calls) [] k = absurd k
kept-length names after better opened lawful h (c ∷ calls) (a ∷ answers) k =
    ap suc (kept-length names after better opened lawful k.0 calls answers k.2)

-- What the search by quarters stands on.
--   Laws ..       what a book shows: being better is a preorder, rest is always allowed, whoever is better may do what the other may
--                 and stays better, rest leaves one better off than driving, and sound rows lead to sound rows
--   Setting ..    such a book, a sound start, and a tour of stops that each have a service
use Rattle.std.proofs.Common.{◌≡◌, ℕ, ◌<◌, List, length, None, Option}
use Rattle.duty.specs.declared.Duty.{Duty}
use Rattle.duty.specs.declared.Duty.TheVariants.{Rest, Drive}
use Rattle.rules.specs.declared.breach.Violation.{Violation}
use Rattle.planning.specs.declared.Stop.{Stop}
use Rattle.planning.specs.Labels.{stop_at}

pub record Laws {R : Type 0} (names : R → ℕ → Duty → Option Violation) (after : R → ℕ → Duty → R) (better : R → R → Type 0) (sound : R → Type 0) : Type 0 where
  pub reflexive : (s : R) → better s s
  pub transitive : (s t u : R) → better s t → better t u → better s u
  pub rests : (s : R) (q : ℕ) → sound s → q < 2688 → names s q Rest ≡ None
  pub keeps : (a b : R) (q : ℕ) (x : Duty) → sound a → sound b → q < 2688 → better a b → names b q x ≡ None → (names a q x ≡ None) × better (after a q x) (after b q x)
  pub relieves : (s : R) (q : ℕ) → sound s → q < 2688 → names s q Drive ≡ None → better (after s q Rest) (after s q Drive)
  pub endures : (s : R) (q : ℕ) (x : Duty) → sound s → sound (after s q x)

pub record Setting {R : Type 0} (names : R → ℕ → Duty → Option Violation) (after : R → ℕ → Duty → R) (better : R → R → Type 0) (sound : R → Type 0) (stops : List Stop) (start : R) : Type 0 where
  pub laws : Laws names after better sound
  pub start-sound : sound start
  pub serviced : (i : ℕ) → i < length stops → 0 < (stop_at stops i).service
  pub some-stop : 0 < length stops

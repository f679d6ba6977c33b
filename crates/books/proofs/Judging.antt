-- What the judge finds by a book that is tied to a rule set, in the words of that set's sentences.
use Rattle.std.proofs.Common.{◌≡◌, ℕ, ◌<◌, true, List, length, take, Some, None, Ok, Err, Option, Result, ap}
use Rattle.duty.specs.declared.Duty.{Duty}
use Rattle.duty.specs.Logs.{at}
use Rattle.duty.specs.Duties.{spelt}
use Rattle.rules.specs.declared.breach.Breach.{Breach}
use Rattle.rules.specs.declared.breach.Violation.{Violation}
use Rattle.rules.specs.declared.refusal.Refusal.{Refusal}
use Rattle.rules.specs.Judged.{breach_at, Found, Judged}
use Rattle.rules.specs.Walk.{led, Allowed}
use Rattle.rules.proofs.Allows.{allows, allows-allowed}
use Rattle.books.specs.Sentences.{Rule}
use Rattle.books.specs.Sets.{placed, Lawful, FirstBreach}
use Rattle.books.specs.Verdicts.{FoundBy, JudgedBy}
use Rattle.books.specs.Broken.{Sorted}
use Rattle.books.specs.Tied.{Tied, breach-some, allowed-lawful, breached-first}

module _ {S : Type 0} (names : S → ℕ → Duty → Option Violation) (after : S → ℕ → Duty → S) (opened : S) (set : List (List Rule)) (tied : Tied names after opened set) (sorted : Sorted (placed 1 set)) where
  module _ (lawful : List Duty → Type 0) (allowed : (l : List Duty) → lawful l → Allowed names after opened 0 l) where
    found_by : (l : List Duty) (n : ℕ) (o : Option Breach) → Found names after opened lawful l n o → FoundBy set l n o
    found_by l n None h = (h.0, allowed-lawful names after opened set tied l (allowed l h.1))
    found_by l n (Some b) h =
        let v = breach-some n (names (led after opened 0 (take n l)) n (at l n)) b h.named in
        (ap (λ c. c.quarter) v.2, breached-first names after opened set tied sorted l n b h.within (allowed (take n l) h.before) h.named)

    pub judged_by : (bytes : List ℕ) (r : Result (ℕ × Option Breach) Refusal) → Judged names after opened lawful bytes r → JudgedBy set bytes r
    judged_by bytes (Err why) h = h
    judged_by bytes (Ok found) h = (h.0, h.1, found_by (spelt bytes) found.0 found.1 h.2)

  -- a log that the machine allows is lawful, and one that it stops at n has its first breach there
  pub computed_lawful : (l : List Duty) → allows names after opened 0 l ≡ true → Lawful set l
  computed_lawful l e = allowed-lawful names after opened set tied l (allows-allowed names after l opened 0 e)

  pub computed_breach : (l : List Duty) (b : Breach) → b.quarter < length l → allows names after opened 0 (take b.quarter l) ≡ true → breach_at b.quarter (names (led after opened 0 (take b.quarter l)) b.quarter (at l b.quarter)) ≡ Some b → FirstBreach set l b
  computed_breach l b within e named =
      breached-first names after opened set tied sorted l b.quarter b within (allows-allowed names after (take b.quarter l) opened 0 e) named

-- What a book over another names, and where its state goes. Assumes nothing.
--   raised n o           what the upper book names, counted over n layers; layer numbers are held at 255
--   first_named low up   what the lower book names, or else what the upper one does
--   moved o new old      the new state where nothing is named, else the old one
use Rattle.std.specs.Prelude.{ℕ, ◌+◌, min, Some, None, Option}
use Rattle.rules.specs.declared.breach.Violation.{Violation}

abbrev pub raised : ℕ → Option Violation → Option Violation
raised n None = None
raised n (Some v) = Some (record { rule = v.rule; layer = min 255 (n + v.layer) })

abbrev pub first_named : {V : Type 0} → Option V → Option V → Option V
first_named None up = up
first_named (Some v) up = Some v

abbrev pub moved : {S V : Type 0} → Option V → S → S → S
moved None new old = new
moved (Some v) new old = old

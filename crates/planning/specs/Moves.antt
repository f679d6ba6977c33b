-- One quarter on from a label, step by step. Assumes nothing.
--   begun, ready         the tests: the service has begun; work may stand at quarter q
--   move .. f a x        the label after the status x at quarter q, if there is one, with `from` f; none at the last work of a tour
--   serves_all .. a      whether work at quarter q serves the tour's last quarter
use Rattle.std.specs.Prelude.{ℕ, ◌+◌, ◌-◌, Bool, cond, not, ◌&&◌, ◌||◌, List, length, is_some, Some, None, Option, ◌==◌, nat_le, nat_lt}
use Rattle.duty.specs.declared.Duty.{Duty}
use Rattle.duty.specs.declared.Duty.TheVariants.{Rest, Work, Drive}
use Rattle.rules.specs.declared.breach.Violation.{Violation}
use Rattle.planning.specs.declared.Label.{Label}
use Rattle.planning.specs.declared.Stop.{Stop}
use Rattle.planning.specs.Labels.{stop_at}

abbrev pub begun : {R : Type 0} → List Stop → Label R → Bool
begun stops a = nat_lt a.service (stop_at stops a.stop).service

abbrev pub ready : {R : Type 0} → List Stop → ℕ → Label R → Bool
ready stops q a = a.drive == 0 && (begun stops a || (nat_le (stop_at stops a.stop).opens q && nat_le q (stop_at stops a.stop).closes))

-- the label at the beginning of a stop
abbrev pub label_at : {R : Type 0} → List Stop → ℕ → ℕ → R → Label R
label_at stops i f row = record { stop = i; drive = (stop_at stops i).drive; service = (stop_at stops i).service; from = f; row = row }

-- where a status that the book allows leads, `row` being the row after it
abbrev pub lead : {R : Type 0} → List Stop → ℕ → ℕ → Label R → R → Duty → Option (Label R)
lead stops q f a row Rest =
    cond (begun stops a) None (Some (record { stop = a.stop; drive = a.drive; service = a.service; from = f; row = row }))
lead stops q f a row Drive =
    cond (begun stops a || a.drive == 0) None (Some (record { stop = a.stop; drive = a.drive - 1; service = a.service; from = f; row = row }))
lead stops q f a row Work =
    cond (ready stops q a)
    (cond (nat_lt 1 a.service) (Some (record { stop = a.stop; drive = a.drive; service = a.service - 1; from = f; row = row }))
    (cond (nat_lt (a.stop + 1) (length stops)) (Some (label_at stops (a.stop + 1) f row)) None))
    None

abbrev pub move : {R : Type 0} → (R → ℕ → Duty → Option Violation) → (R → ℕ → Duty → R) → List Stop → ℕ → ℕ → Label R → Duty → Option (Label R)
move names after stops q f a x = cond (is_some (names a.row q x)) None (lead stops q f a (after a.row q x) x)

abbrev pub serves_all : {R : Type 0} → (R → ℕ → Duty → Option Violation) → List Stop → ℕ → Label R → Bool
serves_all names stops q a = not (is_some (names a.row q Work)) && ready stops q a && a.service == 1 && a.stop + 1 == length stops

-- Which labels can be reached, which are alive, which covers which, and how many are needed. Assumes nothing.
--   names, after              a book, by the rows of its states: what it names at a quarter, and the next row
--   start, now                the row of the state at quarter `now`, before which all has been recorded
--   Partway stop p part d w   the letters `part`, from quarter p on, leave d of the stop's driving and w of its service:
--                             travel with at most the stop's driving, or a stretch broken off between two quarters of work
--   Reached .. ls a           the letters ls are lawful from `now` on and lead to the label a
--   Reachable .. q a          some letters from `now` to before q lead to a
--   Begun, Alive              the current stop's service has begun; or it can still begin by its close
--   Covers better a b         a is at the same stop, at least as well off, and as far with the service or no less far with the driving
--   Needed .. q n             n is the least number of alive reachable labels at q that cover all of those
use Rattle.std.specs.Prelude.{◌≡◌, ℕ, ◌+◌, ◌<◌, ◌≤◌, ◌⊎◌, List, ◌++◌, length, take, replicate, Option, slice_index_or}
use Rattle.duty.specs.declared.Duty.{Duty}
use Rattle.duty.specs.declared.Duty.TheVariants.{Work}
use Rattle.duty.specs.Duties.{driving}
use Rattle.rules.specs.declared.breach.Violation.{Violation}
use Rattle.rules.specs.Walk.{led, Allowed}
use Rattle.planning.specs.declared.Label.{Label}
use Rattle.planning.specs.declared.Stop.{Stop}
use Rattle.planning.specs.Serving.{at_work, tally, Stretch, Serves}

abbrev pub no_stop : Stop
no_stop = record { drive = 0; service = 0; opens = 0; closes = 0 }

abbrev pub stop_at : List Stop → ℕ → Stop
stop_at stops i = slice_index_or stops i no_stop

-- still travelling
pub record Underway (stop : Stop) (part : List Duty) (d w : ℕ) : Type 0 where
  pub travelling : tally at_work part ≡ 0
  pub driven : tally driving part + d ≡ stop.drive
  pub unserved : w ≡ stop.service

-- some but not all of the service is done
pub record BrokenOff (stop : Stop) (p : ℕ) (part : List Duty) (d w : ℕ) : Type 0 where
  pub travel : List Duty
  pub done : ℕ
  pub letters : part ≡ travel ++ replicate done Work
  pub stretch : Stretch stop p travel
  pub some : 0 < done
  pub left : 0 < w
  pub both : done + w ≡ stop.service
  pub driven : d ≡ 0

abbrev pub Partway : Stop → ℕ → List Duty → ℕ → ℕ → Type 0
Partway stop p part d w = Underway stop part d w ⊎ BrokenOff stop p part d w

pub record Reached {R : Type 0} (names : R → ℕ → Duty → Option Violation) (after : R → ℕ → Duty → R) (stops : List Stop) (start : R) (now : ℕ) (ls : List Duty) (a : Label R) : Type 0 where
  pub served : List Duty
  pub part : List Duty
  pub whole : ls ≡ served ++ part
  pub allowed : Allowed names after start now ls
  pub state : a.row ≡ led after start now ls
  pub current : a.stop < length stops
  pub before : Serves (take a.stop stops) now served
  pub partway : Partway (stop_at stops a.stop) (now + length served) part a.drive a.service

abbrev pub Reachable : {R : Type 0} → (R → ℕ → Duty → Option Violation) → (R → ℕ → Duty → R) → List Stop → R → ℕ → ℕ → Label R → Type 0
Reachable names after stops start now q a = (ls : List Duty) × (now + length ls ≡ q) × Reached names after stops start now ls a

abbrev pub Begun : {R : Type 0} → List Stop → Label R → Type 0
Begun stops a = a.service < (stop_at stops a.stop).service

abbrev pub Alive : {R : Type 0} → List Stop → ℕ → Label R → Type 0
Alive stops q a = Begun stops a ⊎ (q + a.drive ≤ (stop_at stops a.stop).closes)

-- both services have begun with the same left, or neither has and no more driving is left
abbrev pub AsFar : {R : Type 0} → List Stop → Label R → Label R → Type 0
AsFar stops a b = (Begun stops a × Begun stops b × (a.service ≡ b.service)) ⊎ ((Begun stops a → ⊥) × (Begun stops b → ⊥) × (a.drive ≤ b.drive))

pub record Covers {R : Type 0} (better : R → R → Type 0) (stops : List Stop) (a b : Label R) : Type 0 where
  pub stop : a.stop ≡ b.stop
  pub row : better a.row b.row
  pub far : AsFar stops a b

-- a list of labels, each alive and reachable at q, that covers every such label
pub record Cover {R : Type 0} (names : R → ℕ → Duty → Option Violation) (after : R → ℕ → Duty → R) (better : R → R → Type 0) (stops : List Stop) (start : R) (now q : ℕ) (labels : List (Label R)) : Type 0 where
  pub each : (j : ℕ) (d : Label R) → j < length labels → Alive stops q (slice_index_or labels j d) × Reachable names after stops start now q (slice_index_or labels j d)
  pub all : (b : Label R) → Alive stops q b → Reachable names after stops start now q b → (j : ℕ) × (j < length labels) × Covers better stops (slice_index_or labels j b) b

pub record Needed {R : Type 0} (names : R → ℕ → Duty → Option Violation) (after : R → ℕ → Duty → R) (better : R → R → Type 0) (stops : List Stop) (start : R) (now q n : ℕ) : Type 0 where
  pub labels : List (Label R)
  pub size : length labels ≡ n
  pub cover : Cover names after better stops start now q labels
  pub least : (others : List (Label R)) → Cover names after better stops start now q others → n ≤ length others

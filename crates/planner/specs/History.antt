-- The history of a card and a tour: the quarters recorded and the stops left, fed the arguments of calls alone. Assumes nothing.
--   Completes lawful h ls e   the letters ls after the recorded log are lawful and serve the stops left, and end at e
--   width, span               a sheet's labels for a quarter, and the quarters that a schedule can take
--   Counts .. q               a quarter of the span at which no such letters have ended yet
use Rattle.std.specs.Prelude.{◌≡◌, ℕ, ◌+◌, ◌-◌, ◌/◌, ◌<◌, ◌≤◌, List, [], ◌++◌, length}
use Rattle.duty.specs.declared.Duty.{Duty}
use Rattle.planning.specs.declared.Stop.{Stop}
use Rattle.planning.specs.Labels.{stop_at}
use Rattle.planning.specs.Serving.{Serves}

pub record History : Type 0 where
  pub log : List Duty
  pub stops : List Stop

abbrev pub fresh : History
fresh = record { log = []; stops = [] }

abbrev pub now_of : History → ℕ
now_of h = length h.log

abbrev pub last_stop : List Stop → Stop
last_stop stops = stop_at stops (length stops - 1)

-- the labels that a sheet keeps for a quarter
abbrev pub width : ℕ → ℕ
width labels = labels / 3

-- the quarters from now to the last possible end
abbrev pub span : List Stop → ℕ → ℕ
span stops now = (last_stop stops).closes + (last_stop stops).service - now

pub record Completes (lawful : List Duty → Type 0) (h : History) (ls : List Duty) (e : ℕ) : Type 0 where
  pub lawfully : lawful (h.log ++ ls)
  pub serving : Serves h.stops (now_of h) ls
  pub end : e ≡ now_of h + length ls

pub record Counts (lawful : List Duty → Type 0) (h : History) (q : ℕ) : Type 0 where
  pub begun : now_of h ≤ q
  pub within : q < now_of h + span h.stops (now_of h)
  pub unended : (ls : List Duty) (e : ℕ) → Completes lawful h ls e → q < e

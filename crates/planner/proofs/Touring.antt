-- The stops of a tour: how many there are, and that they are in range.
use Rattle.std.proofs.Common.{◌≡◌, ℕ, ◌+◌, ◌<◌, List, length, set, sym, subst, arith, below_more}
use Rattle.std.proofs.lemmas.List.{length-take-le, get_or-take, get_or-set_same, get_or-set_other}
use Rattle.planning.specs.declared.Stop.{Stop}
use Rattle.planning.specs.Labels.{no_stop, stop_at}
use Rattle.planner.specs.declared.tour.Tour.{Tour}
use Rattle.planner.specs.Ranges.{InRange, AllInRange}
use Rattle.planner.specs.Toured.{stops_of}

pub count_of : (tour : Tour) → length (stops_of tour) ≡ tour.count
count_of tour =
    length-take-le tour.count tour.stops (omega (arith, tour.places, tour.counted))

pub every_in_range : (tour : Tour) (i : ℕ) → i < length (stops_of tour) → InRange (stop_at (stops_of tour) i)
every_in_range tour i lt =
    let within : i < tour.count = omega (arith, count_of tour) in
    subst InRange (sym (get_or-take tour.count tour.stops i no_stop within)) (tour.ranged i within)

pub every_service : (tour : Tour) (i : ℕ) → i < length (stops_of tour) → 0 < (stop_at (stops_of tour) i).service
every_service tour i lt = omega (arith, every_in_range tour i lt)

-- a stop in range, written behind the first n
pub range_more : (stops : List Stop) (n : ℕ) (stop : Stop) → n < length stops → AllInRange stops n → InRange stop → AllInRange (set stops n stop) (n + 1)
range_more stops n stop lt all here =
    below_more (λ k. InRange (stop_at (set stops n stop) k)) n (λ k less. subst InRange (sym (get_or-set_other stops n k stop no_stop (λ e. omega arith))) (all k less)) (subst InRange (sym (get_or-set_same stops n stop no_stop lt)) here)

-- The last stop of a tour ends within the horizon, and each stop has a service.
use Rattle.std.proofs.Common.{◌≡◌, ℕ, ◌+◌, ◌-◌, ◌<◌, ◌≤◌, List, length, sym, subst, arith}
use Rattle.planning.specs.declared.Stop.{Stop}
use Rattle.planning.specs.Labels.{stop_at}
use Rattle.planner.specs.declared.tour.Tour.{Tour}
use Rattle.planner.specs.History.{last_stop}
use Rattle.planner.specs.Toured.{stops_of}
use Rattle.planner.proofs.Touring.{every_in_range, every_service}

pub last_within : (tour : Tour) → 0 < length (stops_of tour) → (last_stop (stops_of tour)).closes + (last_stop (stops_of tour)).service ≤ 2688
last_within tour some = (every_in_range tour (length (stops_of tour) - 1) (omega arith)).4

pub all_serviced : (tour : Tour) (stops : List Stop) → stops ≡ stops_of tour → (i : ℕ) → i < length stops → 0 < (stop_at stops i).service
all_serviced tour stops same = subst (λ s. (i : ℕ) → i < length s → 0 < (stop_at s i).service) (sym same) (every_service tour)

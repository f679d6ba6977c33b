-- What becomes of a tour. Assumes nothing.
--   stops_of tour                 its stops
--   RefusedStop stops stop why    the refusals of a new stop, in their order: no place for it, then a field out of range
--   PutLast before stop after r   the answer r to a new stop: it is put last, or refused and the stops stay
--   TakenOff before after r       the last stop is taken off, or there is none
use Rattle.std.specs.Prelude.{◌≡◌, ◌<◌, ◌⊎◌, List, [], ◌∷◌, ◌++◌, length, take, Ok, Err, Result}
use Rattle.rules.specs.declared.refusal.Refusal.{Refusal}
use Rattle.rules.specs.Refusals.{number}
use Rattle.planning.specs.declared.Stop.{Stop}
use Rattle.planner.specs.declared.tour.Tour.{Tour}
use Rattle.planner.specs.Ranges.{InRange}

abbrev pub stops_of : Tour → List Stop
stops_of tour = take tour.count tour.stops

abbrev pub RefusedStop : List Stop → Stop → Refusal → Type 0
RefusedStop stops stop why =
    ((number why ≡ 4) × (length stops ≡ 16)) ⊎ ((number why ≡ 5) × (length stops < 16) × (InRange stop → ⊥))

abbrev pub PutLast : List Stop → Stop → List Stop → Result (Unit {0}) Refusal → Type 0
PutLast before stop after (Ok _) = (length before < 16) × InRange stop × (after ≡ before ++ stop ∷ [])
PutLast before stop after (Err why) = (after ≡ before) × RefusedStop before stop why

abbrev pub TakenOff : List Stop → List Stop → Result (Unit {0}) Refusal → Type 0
TakenOff before after (Ok _) = (last : Stop) × (before ≡ after ++ last ∷ [])
TakenOff before after (Err why) = (number why ≡ 6) × (before ≡ []) × (after ≡ [])

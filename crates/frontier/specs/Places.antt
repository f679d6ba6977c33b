-- What a frontier holds.
--   kept f                      the elements that it keeps, in their order
--   all f                       all its places: the kept elements first, and then what stands beyond them
--   Same f g                    g keeps what f keeps, and has each place as f has it
--   SameBeyond f g              beyond the kept elements of both, g has each place as f has it
--   SamePast kept after xs ys   the same of places xs that became ys, where kept became after
use Rattle.std.specs.Prelude.{◌≡◌, max, List, length, take, drop}
use Rattle.frontier.specs.declared.container.Frontier.{Frontier}

abbrev pub all : {T : Type 0} → Frontier T → List T
all f = f.places.now

abbrev pub kept : {T : Type 0} → Frontier T → List T
kept f = take f.count (all f)

abbrev pub Same : {T : Type 0} → Frontier T → Frontier T → Type 0
Same f g = (kept g ≡ kept f) × (all g ≡ all f)

abbrev pub SamePast : {X : Type 0} → List X → List X → List X → List X → Type 0
SamePast kept after xs ys = drop (max (length kept) (length after)) ys ≡ drop (max (length kept) (length after)) xs

abbrev pub SameBeyond : {T : Type 0} → Frontier T → Frontier T → Type 0
SameBeyond f g = SamePast (kept f) (kept g) (all f) (all g)

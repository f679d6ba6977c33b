-- What it is to be a smallest cover, for any relation `covers`. Assumes nothing.
--   Preorder covers                     each covers itself, and what covers a cover covers what that covers
--   Covered covers kept x               one of kept covers x
--   Cover covers kept seen              each of seen is covered by one of kept
--   Apart covers kept                   none of kept covers another of kept
--   First covers seen x                 x is one of seen, and none of those before it covers it
--   SmallestCover covers kept seen      kept is a smallest cover of seen, in order of arrival
--   StillSmallest covers kept x after   of whatever kept is a smallest cover, after is one of that and then x
use Rattle.std.specs.Prelude.{◌≡◌, ◌≤◌, List, [], ◌∷◌, ◌++◌, length}
use Rattle.frontier.specs.Lists.{In, Subsequence, Pairwise}

pub record Preorder {X : Type 0} (covers : X → X → Type 0) : Type 0 where
  pub reflexive : (x : X) → covers x x
  pub transitive : (x y z : X) → covers x y → covers y z → covers x z

abbrev pub Covered : {X : Type 0} → (X → X → Type 0) → List X → X → Type 0
Covered {X} covers kept x = (y : X) × In y kept × covers y x

abbrev pub Cover : {X : Type 0} → (X → X → Type 0) → List X → List X → Type 0
Cover {X} covers kept seen = (x : X) → In x seen → Covered covers kept x

abbrev pub Apart : {X : Type 0} → (X → X → Type 0) → List X → Type 0
Apart covers kept = Pairwise (λ x y. (covers x y → ⊥) × (covers y x → ⊥)) kept

abbrev pub First : {X : Type 0} → (X → X → Type 0) → List X → X → Type 0
First {X} covers seen x =
    (before : List X) × (after : List X) × (seen ≡ before ++ (x ∷ after)) × (Covered covers before x → ⊥)

pub record SmallestCover {X : Type 0} (covers : X → X → Type 0) (kept seen : List X) : Type 0 where
  -- the kept are among those seen, in order of arrival
  pub arrival : Subsequence kept seen
  -- they cover every one seen
  pub cover : Cover covers kept seen
  -- none covers another
  pub apart : Apart covers kept
  -- nothing that came before a kept one covers it: of those that cover each other the earliest is kept
  pub first : (x : X) → In x kept → First covers seen x
  -- no list of seen elements that covers all of them is shorter
  pub least : (other : List X) → ((x : X) → In x other → In x seen) → Cover covers other seen → length kept ≤ length other

abbrev pub StillSmallest : {X : Type 0} → (X → X → Type 0) → List X → X → List X → Type 0
StillSmallest {X} covers kept x after =
    (seen : List X) → SmallestCover covers kept seen → SmallestCover covers after (seen ++ (x ∷ []))

-- What the lines done and stop say, and which lines say nothing; of the other kinds the check finds it alone.
use Rattle.std.proofs.Common.{◌≡◌, ℕ, zero, suc, ◌≤◌, false, eqb, List, [], ◌∷◌, ◌++◌, get_or, drop, Ok, codes, decimal, sym, refl, ap, ◌∙◌, subst, arith}
use Rattle.std.proofs.lemmas.Fmt.{decimal_injective}
use Rattle.std.proofs.lemmas.Bool.{eqb-false}
use Rattle.books.specs.declared.sets.RuleSet.{RuleSet}
use Rattle.books.specs.Names.{set_name}
use Rattle.fields.proofs.Cutting.{parted_once, lacks_not, lacks_so}
use Rattle.fields.proofs.Numerals.{led_once, small}
use Rattle.fields.specs.Cuts.{Lacks, Parted}
use Rattle.planning.specs.declared.Stop.{Stop}
use Rattle.planner.specs.declared.call.Call.TheVariants.{Record, Add, Drop, Plan}
use Rattle.lines.specs.declared.line.Line.{Line}
use Rattle.lines.specs.declared.line.Line.TheVariants as line
use Rattle.lines.specs.Says.{Fits, Says, Reads}

-- bytes that differ at the first or at the second place
differ : (a b : ℕ) (xs ys : List ℕ) → eqb a b ≡ false → a ∷ xs ≡ b ∷ ys → ⊥
differ a b xs ys e same = eqb-false a b e (ap (λ l. get_or l 0 0) same)

differ₂ : (c d a b : ℕ) (xs ys : List ℕ) → eqb a b ≡ false → c ∷ a ∷ xs ≡ d ∷ b ∷ ys → ⊥
differ₂ c d a b xs ys e same = differ a b xs ys e (ap (drop 1) same)

same_stop : (s t : Stop) → s.drive ≡ t.drive → s.service ≡ t.service → s.opens ≡ t.opens → s.closes ≡ t.closes → s ≡ t
same_stop s t drive service opens closes = fields
  where
    fields : ◌≡◌ {A = Stop} (record { drive = s.drive; service = s.service; opens = s.opens; closes = s.closes }) (record { drive = t.drive; service = t.service; opens = t.opens; closes = t.closes })
    fields = cc

-- a byte that is no comma
single : (letter : ℕ) → (letter ≡ 44 → ⊥) → Lacks 44 (letter ∷ [])
single letter plain zero lt e = plain e
single letter plain (suc k) lt e = omega arith

abbrev pub done_fields : ℕ → ℕ → List ℕ
done_fields letter count = letter ∷ 44 ∷ decimal count

abbrev pub stop_fields : Stop → List ℕ
stop_fields stop = decimal stop.drive ++ 44 ∷ (decimal stop.service ++ 44 ∷ (decimal stop.opens ++ 44 ∷ decimal stop.closes))

module _ (place : ℕ) (fields : List ℕ) where
  -- done
  pub not_done : ((letter count : ℕ) → (letter ≡ 44 → ⊥) → count ≤ 9999 → fields ≡ done_fields letter count → ⊥) → (x : Line) → Says place (codes "done," ++ fields) x → ⊥
  not_done none (line.Rules s) h = differ 100 114 _ _ refl h.spelling
  not_done none (line.Call (Record letter count)) h = none letter count h.fits.0 h.fits.1 (ap (drop 5) h.spelling)
  not_done none (line.Call (Add stop)) h = differ 100 115 _ _ refl h.spelling
  not_done none (line.Call Drop) h = differ₂ 100 100 111 114 _ _ refl h.spelling
  not_done none (line.Call (Plan buffers)) h = differ 100 112 _ _ refl h.spelling

  -- stop
  pub not_stop : ((stop : Stop) → Fits place (line.Call (Add stop)) → fields ≡ stop_fields stop → ⊥) → (x : Line) → Says place (codes "stop," ++ fields) x → ⊥
  not_stop none (line.Rules s) h = differ 115 114 _ _ refl h.spelling
  not_stop none (line.Call (Record letter count)) h = differ 115 100 _ _ refl h.spelling
  not_stop none (line.Call (Add stop)) h = none stop h.fits (ap (drop 5) h.spelling)
  not_stop none (line.Call Drop) h = differ 115 100 _ _ refl h.spelling
  not_stop none (line.Call (Plan buffers)) h = differ 115 112 _ _ refl h.spelling

  stop_only : (stop : Stop) → Fits place (line.Call (Add stop)) → fields ≡ stop_fields stop → (y : Line) → Says place (codes "stop," ++ fields) y → y ≡ line.Call (Add stop)
  stop_only stop fits e (line.Rules n) h = absurd (differ 115 114 _ _ refl h.spelling)
  stop_only stop fits e (line.Call (Record letter count)) h = absurd (differ 115 100 _ _ refl h.spelling)
  stop_only stop fits e (line.Call (Add stop')) h =
      let same = sym (ap (drop 5) h.spelling) ∙ e in
      let first = led_once stop'.drive stop.drive _ _ h.fits.0 fits.0 same in
      let second = led_once stop'.service stop.service _ _ h.fits.1 fits.1 first.1 in
      let third = led_once stop'.opens stop.opens _ _ h.fits.2 fits.2 second.1 in
      let last = decimal_injective stop'.closes stop.closes (small stop'.closes h.fits.3) (small stop.closes fits.3) third.1 in
      ap (λ s. line.Call (Add s)) (same_stop stop' stop first.0 second.0 third.0 last)
  stop_only stop fits e (line.Call Drop) h = absurd (differ 115 100 _ _ refl h.spelling)
  stop_only stop fits e (line.Call (Plan buffers)) h = absurd (differ 115 112 _ _ refl h.spelling)

  pub stop_reads : (stop : Stop) → Fits place (line.Call (Add stop)) → fields ≡ stop_fields stop → Reads place (codes "stop," ++ fields) (Ok (line.Call (Add stop)))
  stop_reads stop fits e = (record { fits = fits; spelling = ap (λ fs. codes "stop," ++ fs) e }, stop_only stop fits e)

  -- rules
  pub not_rules : ((s : RuleSet) → place ≡ 1 → fields ≡ set_name s → ⊥) → (x : Line) → Says place (codes "rules," ++ fields) x → ⊥
  not_rules none (line.Rules s) h = none s h.fits (ap (drop 6) h.spelling)
  not_rules none (line.Call (Record letter count)) h = differ 114 100 _ _ refl h.spelling
  not_rules none (line.Call (Add stop)) h = differ 114 115 _ _ refl h.spelling
  not_rules none (line.Call Drop) h = differ 114 100 _ _ refl h.spelling
  not_rules none (line.Call (Plan buffers)) h = differ 114 112 _ _ refl h.spelling

-- words and kinds of no line
module _ (place : ℕ) where
  -- a line with no comma is drop or plan
  pub no_fields : (bytes : List ℕ) → Lacks 44 bytes → (bytes ≡ codes "drop" → ⊥) → (bytes ≡ codes "plan" → ⊥) → (x : Line) → Says place bytes x → ⊥
  no_fields bytes none drops plans (line.Rules s) h = lacks_not 44 (codes "rules") (set_name s) (subst (Lacks 44) h.spelling none)
  no_fields bytes none drops plans (line.Call (Record letter count)) h = lacks_not 44 (codes "done") (done_fields letter count) (subst (Lacks 44) h.spelling none)
  no_fields bytes none drops plans (line.Call (Add stop)) h = lacks_not 44 (codes "stop") (stop_fields stop) (subst (Lacks 44) h.spelling none)
  no_fields bytes none drops plans (line.Call Drop) h = drops h.spelling
  no_fields bytes none drops plans (line.Call (Plan buffers)) h = plans h.spelling

  -- with fields there are no other kinds than these three
  pub no_kind : (kind fields : List ℕ) → Lacks 44 kind → (kind ≡ codes "done" → ⊥) → (kind ≡ codes "stop" → ⊥) → (kind ≡ codes "rules" → ⊥) → (x : Line) → Says place (kind ++ 44 ∷ fields) x → ⊥
  no_kind kind fields none done stop rules (line.Rules s) h =
      rules (parted_once 44 kind (codes "rules") fields (set_name s) none (lacks_so 44 (codes "rules") refl) h.spelling).0
  no_kind kind fields none done stop rules (line.Call (Record letter count)) h =
      done (parted_once 44 kind (codes "done") fields (done_fields letter count) none (lacks_so 44 (codes "done") refl) h.spelling).0
  no_kind kind fields none done stop rules (line.Call (Add stop')) h =
      stop (parted_once 44 kind (codes "stop") fields (stop_fields stop') none (lacks_so 44 (codes "stop") refl) h.spelling).0
  no_kind kind fields none done stop rules (line.Call Drop) h =
      lacks_not 44 kind fields (subst (Lacks 44) (sym h.spelling) (lacks_so 44 (codes "drop") refl))
  no_kind kind fields none done stop rules (line.Call (Plan buffers)) h =
      lacks_not 44 kind fields (subst (Lacks 44) (sym h.spelling) (lacks_so 44 (codes "plan") refl))

-- the fields of done, parted at their first comma
pub done_parts : (fields front back : List ℕ) → Parted 44 fields front back → (letter count : ℕ) → (letter ≡ 44 → ⊥) → fields ≡ done_fields letter count → (front ≡ letter ∷ []) × (back ≡ decimal count)
done_parts fields front back cut letter count plain e =
    parted_once 44 front (letter ∷ []) back (decimal count) cut.unbroken (single letter plain) (sym cut.whole ∙ e)

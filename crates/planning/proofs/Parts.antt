-- The letters of the current stop, one status more and one status less.
--   Startable stop p part w    work may follow the part: the service has begun, or the quarter lies in the window
use Rattle.std.proofs.Common.{◌≡◌, ℕ, zero, suc, ◌+◌, ◌-◌, ◌<◌, ◌≤◌, ◌⊎◌, List, [], ◌∷◌, ◌++◌, length, replicate, sym, refl, ap, ◌∙◌, subst, inl, inr, arith}
use Rattle.std.proofs.lemmas.List.{append-nil, length-append, length-replicate, nil_from_length, same_from_push}
use Rattle.duty.specs.declared.Duty.{Duty}
use Rattle.duty.specs.declared.Duty.TheVariants.{Rest, Work, Drive}
use Rattle.duty.specs.Duties.{driving}
use Rattle.planning.specs.declared.Stop.{Stop}
use Rattle.planning.specs.Serving.{at_work, tally, InWindow, Stretch}
use Rattle.planning.specs.Labels.{Underway, BrokenOff, Partway}
use Rattle.planning.proofs.Tallies.{tally-push, works_push}

module _ (stop : Stop) (p : ℕ) where
  abbrev pub Startable : List Duty → ℕ → Type 0
  Startable part w = (w < stop.service) ⊎ InWindow stop (p + length part)

  pub partway_most : (part : List Duty) (d w : ℕ) → Partway stop p part d w → w ≤ stop.service
  partway_most part d w (inl u) = omega arith
  partway_most part d w (inr b) = omega arith

  pub partway-some : (part : List Duty) (d w : ℕ) → 0 < stop.service → Partway stop p part d w → 0 < w
  partway-some part d w some (inl u) = omega arith
  partway-some part d w some (inr b) = b.left

  pub partway-driven : (part : List Duty) (d w : ℕ) → Partway stop p part d w → w < stop.service → d ≡ 0
  partway-driven part d w (inl u) lt = absurd (omega arith)
  partway-driven part d w (inr b) lt = b.driven

  pub partway-underway : (part : List Duty) (d w : ℕ) → Partway stop p part d w → (w < stop.service → ⊥) → Underway stop part d w
  partway-underway part d w (inl u) not = u
  partway-underway part d w (inr b) not = absurd (not (omega arith))

  -- before any letters nothing is driven or served
  pub start_part : (part : List Duty) (d w : ℕ) → length part ≡ 0 → Partway stop p part d w → (d ≡ stop.drive) × (w ≡ stop.service)
  start_part part d w none (inl u) =
      let z = ap (tally driving) (nil_from_length part none) in (omega arith, u.unserved)
  start_part part d w none (inr b) =
      let z = simp (length-append, length-replicate) at (ap length b.letters) in absurd (omega arith)

  pub rest_on : (part : List Duty) (d w : ℕ) → Underway stop part d w → Underway stop (part ++ Rest ∷ []) d w
  rest_on part d w u =
      let work = tally-push at_work part Rest in
      let drive = tally-push driving part Rest in
      record { travelling = omega arith; driven = omega arith; unserved = u.unserved }

  pub rest_off : (part : List Duty) (d w : ℕ) → Underway stop (part ++ Rest ∷ []) d w → Underway stop part d w
  rest_off part d w u =
      let work = tally-push at_work part Rest in
      let drive = tally-push driving part Rest in
      record { travelling = omega arith; driven = omega arith; unserved = u.unserved }

  pub drive_on : (part : List Duty) (d w : ℕ) → 0 < d → Underway stop part d w → Underway stop (part ++ Drive ∷ []) (d - 1) w
  drive_on part d w some u =
      let work = tally-push at_work part Drive in
      let drive = tally-push driving part Drive in
      record { travelling = omega arith; driven = omega arith; unserved = u.unserved }

  pub drive_off : (part : List Duty) (d w : ℕ) → Underway stop (part ++ Drive ∷ []) d w → Underway stop part (d + 1) w
  drive_off part d w u =
      let work = tally-push at_work part Drive in
      let drive = tally-push driving part Drive in
      record { travelling = omega arith; driven = omega arith; unserved = u.unserved }

  -- where work may follow, the part is the travel and the work done
  pub worked : (part : List Duty) (w : ℕ) → Partway stop p part 0 w → Startable part w → (travel : List Duty) × (done : ℕ) × (part ≡ travel ++ replicate done Work) × Stretch stop p travel × (done + w ≡ stop.service)
  worked part w (inl u) (inl begun) = absurd (omega arith)
  worked part w (inl u) (inr window) =
      (part, 0, sym (append-nil part), record { travels = (u.travelling, omega arith); window = window }, omega arith)
  worked part w (inr b) s = (b.travel, b.done, b.letters, b.stretch, b.both)

  pub unworked : (travel : List Duty) (done w : ℕ) → Stretch stop p travel → 0 < w → done + w ≡ stop.service → Partway stop p (travel ++ replicate done Work) 0 w × Startable (travel ++ replicate done Work) w
  unworked travel zero w s some both =
      let here : Underway stop travel 0 w = record { travelling = s.travels.0; driven = omega (arith, s.travels.1); unserved = omega arith } in
      subst (λ l. Partway stop p l 0 w × Startable l w) (sym (append-nil travel)) (inl here, inr s.window)
  unworked travel (suc n) w s some both = (
    inr
        (record {
          travel = travel;
          done = suc n;
          letters = refl;
          stretch = s;
          some = omega arith;
          left = some;
          both = both;
          driven = refl;
        }),
    inl (omega arith),
  )

  more_work : (part travel : List Duty) (done : ℕ) → part ≡ travel ++ replicate done Work → part ++ Work ∷ [] ≡ travel ++ replicate (suc done) Work
  more_work part travel done e = ap (λ l. l ++ Work ∷ []) e ∙ sym (works_push travel done)

  pub work_on : (part : List Duty) (w : ℕ) → 1 < w → Partway stop p part 0 w → Startable part w → Partway stop p (part ++ Work ∷ []) 0 (w - 1)
  work_on part w lt h s =
      let (travel, done, letters, stretch, both) = worked part w h s in
      inr
      (record {
        travel = travel;
        done = suc done;
        letters = more_work part travel done letters;
        stretch = stretch;
        some = omega arith;
        left = omega arith;
        both = omega arith;
        driven = refl;
      })

  -- the last work of the service
  pub work_last : (part : List Duty) → Partway stop p part 0 1 → Startable part 1 → (travel : List Duty) × (part ++ Work ∷ [] ≡ travel ++ replicate stop.service Work) × Stretch stop p travel
  work_last part h s =
      let (travel, done, letters, stretch, both) = worked part 1 h s in
      let all : suc done ≡ stop.service = omega arith in
      (travel, more_work part travel done letters ∙ ap (λ n. travel ++ replicate n Work) all, stretch)

  broken_ends : (part : List Duty) (x : Duty) (d w : ℕ) → BrokenOff stop p (part ++ x ∷ []) d w → (done : ℕ) × (travel : List Duty) × (part ≡ travel ++ replicate done Work) × (x ≡ Work) × Stretch stop p travel × (done + (w + 1) ≡ stop.service)
  broken_ends part x d w b =
      let one : b.done ≡ suc (b.done - 1) = omega arith in
      let e = b.letters ∙ ap (λ n. b.travel ++ replicate n Work) one ∙ works_push b.travel (b.done - 1) in
      let (front, last) = same_from_push part (b.travel ++ replicate (b.done - 1) Work) x Work e in
      (b.done - 1, b.travel, front, last, b.stretch, omega arith)

  underway_work : (part : List Duty) (d w : ℕ) → Underway stop (part ++ Work ∷ []) d w → ⊥
  underway_work part d w u = let work = tally-push at_work part Work in omega arith

  pub rest_parted : (part : List Duty) (d w : ℕ) → Partway stop p (part ++ Rest ∷ []) d w → Underway stop (part ++ Rest ∷ []) d w
  rest_parted part d w (inl u) = u
  rest_parted part d w (inr b) = let e : Rest ≡ Work = (broken_ends part Rest d w b).3 in let z : ◌≡◌ {A = ℕ} 0 1 = cc in absurd (omega arith)

  pub drive_parted : (part : List Duty) (d w : ℕ) → Partway stop p (part ++ Drive ∷ []) d w → Underway stop (part ++ Drive ∷ []) d w
  drive_parted part d w (inl u) = u
  drive_parted part d w (inr b) = let e : Drive ≡ Work = (broken_ends part Drive d w b).3 in let z : ◌≡◌ {A = ℕ} 0 1 = cc in absurd (omega arith)

  pub work_off : (part : List Duty) (d w : ℕ) → Partway stop p (part ++ Work ∷ []) d w → (d ≡ 0) × (0 < w) × Partway stop p part 0 (w + 1) × Startable part (w + 1)
  work_off part d w (inl u) = absurd (underway_work part d w u)
  work_off part d w (inr b) =
      let (done, travel, letters, last, stretch, both) = broken_ends part Work d w b in
      let (h, s) = unworked travel done (w + 1) stretch (omega arith) both in
      (b.driven, b.left, subst (λ l. Partway stop p l 0 (w + 1)) (sym letters) h, subst (λ l. Startable l (w + 1)) (sym letters) s)

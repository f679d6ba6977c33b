-- Letters that serve a tour, cut where the tour is cut, and the last quarter that they can reach.
--   serves-push, serves_pop    one more of the first stops, served by a stretch at the end; and taken off again
--   serve_bound                letters that serve a tour end by its last stop's close and service
use Rattle.std.proofs.Common.{◌≡◌, ℕ, ◌+◌, ◌-◌, ◌<◌, ◌≤◌, List, [], ◌∷◌, ◌++◌, length, take, replicate, sym, refl, ap, ◌∙◌, subst, arith}
use Rattle.std.proofs.lemmas.List.{append-nil, append_assoc, length-append, length-replicate, take_all, take_more}
use Rattle.duty.specs.declared.Duty.{Duty}
use Rattle.duty.specs.declared.Duty.TheVariants.{Work}
use Rattle.planning.specs.declared.Stop.{Stop}
use Rattle.planning.specs.Serving.{Stretch, Serves}
use Rattle.planning.specs.Labels.{no_stop, stop_at}

take_next : (stops : List Stop) (i : ℕ) → i < length stops → take (i + 1) stops ≡ take i stops ++ stop_at stops i ∷ []
take_next stops i lt = take_more stops i no_stop lt

-- the quarter after a stretch
stretch-length : (travel : List Duty) (n : ℕ) (rest : List Duty) → length (travel ++ replicate n Work ++ rest) ≡ length travel + n + length rest
stretch-length travel n rest = simp (length-append, length-replicate)

serves_join : (xs ys : List Stop) (q : ℕ) (l1 l2 : List Duty) → Serves xs q l1 → Serves ys (q + length l1) l2 → Serves (xs ++ ys) q (l1 ++ l2)
serves_join [] ys q l1 l2 e h =
    subst (λ l. Serves ys q (l ++ l2)) (sym e) (subst (λ n. Serves ys n l2) (let z = ap length e in omega arith) h)
serves_join (x ∷ xs) ys q l1 l2 (travel, rest, e, s, k) h =
    let z = ap length e ∙ stretch-length travel x.service rest in
    let later : q + length l1 ≡ q + length travel + x.service + length rest = omega arith in (
      travel,
      rest ++ l2,
      ap (λ l. l ++ l2) e ∙ append_assoc (travel ++ replicate x.service Work) rest l2,
      s,
      serves_join xs ys (q + length travel + x.service) rest l2 k (subst (λ n. Serves ys n l2) later h),
    )

serves_split : (xs ys : List Stop) (q : ℕ) (ls : List Duty) → Serves (xs ++ ys) q ls → (l1 : List Duty) × (l2 : List Duty) × (ls ≡ l1 ++ l2) × Serves xs q l1 × Serves ys (q + length l1) l2
serves_split [] ys q ls h = ([], ls, refl, refl, subst (λ n. Serves ys n ls) (omega arith) h)
serves_split (x ∷ xs) ys q ls (travel, rest, e, s, k) =
    let (r1, r2, er, k1, k2) = serves_split xs ys (q + length travel + x.service) rest k in
    let z = stretch-length travel x.service r1 in
    let later : q + length travel + x.service + length r1 ≡ q + length (travel ++ replicate x.service Work ++ r1) = omega arith in (
      travel ++ replicate x.service Work ++ r1,
      r2,
      e ∙ ap (λ l. travel ++ replicate x.service Work ++ l) er ∙ sym (append_assoc (travel ++ replicate x.service Work) r1 r2),
      (travel, r1, refl, s, k1),
      subst (λ n. Serves ys n r2) later k2,
    )

-- one stop more at the end of those that are served
pub serves-push : (stops : List Stop) (i q : ℕ) (served travel : List Duty) → i < length stops → Serves (take i stops) q served → Stretch (stop_at stops i) (q + length served) travel → Serves (take (i + 1) stops) q (served ++ (travel ++ replicate (stop_at stops i).service Work))
serves-push stops i q served travel lt h s =
    subst (λ t. Serves t q (served ++ (travel ++ replicate (stop_at stops i).service Work))) (sym (take_next stops i lt))
    (serves_join (take i stops) (stop_at stops i ∷ []) q served (travel ++ replicate (stop_at stops i).service Work) h (travel, [], sym (append-nil _), s, refl))

pub serves_pop : (stops : List Stop) (i q : ℕ) (ls : List Duty) → i < length stops → Serves (take (i + 1) stops) q ls → (served : List Duty) × (travel : List Duty) × (ls ≡ served ++ (travel ++ replicate (stop_at stops i).service Work)) × Serves (take i stops) q served × Stretch (stop_at stops i) (q + length served) travel
serves_pop stops i q ls lt h =
    let (l1, l2, e, k, (travel, rest, er, s, end)) = serves_split (take i stops) (stop_at stops i ∷ []) q ls (subst (λ t. Serves t q ls) (take_next stops i lt) h) in (
      l1,
      travel,
      e ∙ ap (λ l. l1 ++ l) (er ∙ ap (λ l. travel ++ replicate (stop_at stops i).service Work ++ l) end ∙ append-nil _),
      k,
      s,
    )

-- all stops are the first ones and the last
pub serves-last : (stops : List Stop) (q : ℕ) (ls : List Duty) → 0 < length stops → Serves stops q ls → Serves (take (length stops - 1 + 1) stops) q ls
serves-last stops q ls some h = subst (λ t. Serves t q ls) (sym (take_all (length stops - 1 + 1) stops (omega arith))) h

pub serve_bound : (stops : List Stop) (now : ℕ) (ls : List Duty) → 0 < length stops → Serves stops now ls → now + length ls ≤ (stop_at stops (length stops - 1)).closes + (stop_at stops (length stops - 1)).service
serve_bound stops now ls some h =
    let (served, travel, e, k, s) = serves_pop stops (length stops - 1) now ls (omega arith) (serves-last stops now ls some h) in
    let window = s.window.1 in
    let z = simp (length-append, length-replicate) at (ap length e) in
    omega arith

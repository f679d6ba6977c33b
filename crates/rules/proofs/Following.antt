-- The judge's loop: what is known of the statuses read so far, one status more, and at the end.
use Rattle.std.proofs.Common.{◌≡◌, ℕ, ◌+◌, ◌<◌, ◌≤◌, min, true, List, [], ◌∷◌, ◌++◌, length, get_or, take, is_some, Some, None, Ok, Option, unwrap_or, sym, refl, ap, ◌∙◌, subst, zero-add, arith}
use mathlib.Core.Path.{subst₃}
use Rattle.std.proofs.lemmas.List.{take_all, length-map, map_more, length-take, length-take-le, take_at, take-append-le, take_more, get_or_append_left, get_or_push, length_push}
use Rattle.std.specs.Option.{option_or}
use Rattle.duty.specs.declared.Duty.{Duty}
use Rattle.duty.specs.declared.Duty.TheVariants.{Rest}
use Rattle.duty.specs.Duties.{duty_of, spelt}
use Rattle.duty.specs.Logs.{at}
use Rattle.rules.specs.declared.breach.Breach.{Breach}
use Rattle.rules.specs.declared.breach.Violation.{Violation}
use Rattle.rules.specs.Judged.{breach_at, lawful_length, Found, Judged}
use Rattle.rules.specs.Walk.{led, Allowed}
use Rattle.rules.specs.LayersLemmas.{some-none}
use Rattle.rules.proofs.Walk.{led-push, allowed-push, allowed-last}

module _ {S : Type 0} (names : S → ℕ → Duty → Option Violation) (after : S → ℕ → Duty → S) (s : S) where
  -- the statuses read so far are allowed and lead to this state, or have this first breach
  abbrev pub Followed : List Duty → S → Option Breach → Type 0
  Followed l t None = Allowed names after s 0 l × (t ≡ led after s 0 l)
  Followed l t (Some b) = (b.quarter < length l) × Allowed names after s 0 (take b.quarter l) × (breach_at b.quarter (names (led after s 0 (take b.quarter l)) b.quarter (at l b.quarter)) ≡ Some b)

  follow : (l : List Duty) (x : Duty) (o : Option Violation) → Allowed names after s 0 l → names (led after s 0 l) (length l) x ≡ o → Followed (l ++ x ∷ []) (after (led after s 0 l) (length l) x) (breach_at (length l) o)
  follow l x None h e = (
    allowed-push names after l s 0 x h (ap (λ n. names (led after s 0 l) n x) (zero-add (length l)) ∙ e),
    sym (led-push names after l s 0 x ∙ ap (λ n. after (led after s 0 l) n x) (zero-add (length l))),
  )
  follow l x (Some v) h e =
      let front : take (length l) (l ++ x ∷ []) ≡ l = take_at l (x ∷ []) (length l) refl in
      let last : at (l ++ x ∷ []) (length l) ≡ x = get_or_push l x Rest (length l) refl in (
        omega (arith, length_push l x),
        subst (Allowed names after s 0) (sym front) h,
        ap (λ m. breach_at (length l) (names (led after s 0 m) (length l) (at (l ++ x ∷ []) (length l)))) front
            ∙ ap (λ y. breach_at (length l) (names (led after s 0 l) (length l) y)) last
            ∙ ap (breach_at (length l)) e,
      )

  pub follow_more : (l : List Duty) (x : Duty) (t : S) (o : Option Breach) → Followed l t o → Followed (l ++ x ∷ []) (after t (length l) x) (option_or o (breach_at (length l) (names t (length l) x)))
  follow_more l x t None h =
      subst (λ u. Followed (l ++ x ∷ []) (after u (length l) x) (breach_at (length l) (names u (length l) x))) (sym h.1) (follow l x (names (led after s 0 l) (length l) x) h.0 refl)
  follow_more l x t (Some b) h =
      let short : b.quarter ≤ length l = omega arith in
      let front : take b.quarter (l ++ x ∷ []) ≡ take b.quarter l = take-append-le b.quarter l (x ∷ []) short in
      let same : at (l ++ x ∷ []) b.quarter ≡ at l b.quarter = get_or_append_left l (x ∷ []) Rest b.quarter h.0 in (
        omega (arith, length_push l x, h.0),
        subst (Allowed names after s 0) (sym front) h.1,
        ap (λ m. breach_at b.quarter (names (led after s 0 m) b.quarter (at (l ++ x ∷ []) b.quarter))) front
            ∙ ap (λ y. breach_at b.quarter (names (led after s 0 (take b.quarter l)) b.quarter y)) same
            ∙ h.2,
      )

  pub follow_byte : (bytes : List ℕ) (q : ℕ) (x : Duty) (t t' : S) (v : Option Violation) (f o o' : Option Breach) → q < length bytes → q < 2688 → Some x ≡ duty_of (get_or bytes q 0) → v ≡ names t (min q 2687) x → f ≡ breach_at q v → o' ≡ option_or o f → t' ≡ after t (min q 2687) x → Followed (spelt (take q bytes)) t o → Followed (spelt (take (q + 1) bytes)) t' o'
  follow_byte bytes q x t t' v f o o' within short letter e₁ e₂ e₃ e₄ h =
      let long : length (spelt (take q bytes)) ≡ q = length-map (take q bytes) _ ∙ length-take-le q bytes (omega arith) in
      let early : min q 2687 ≡ length (spelt (take q bytes)) = omega arith in
      let pushed : spelt (take (q + 1) bytes) ≡ spelt (take q bytes) ++ x ∷ [] = map_more (λ b. unwrap_or (duty_of b) Rest) bytes q 0 within ∙ ap (λ o. spelt (take q bytes) ++ unwrap_or o Rest ∷ []) (sym letter) in
      let state : t' ≡ after t (length (spelt (take q bytes))) x = e₄ ∙ ap (λ n. after t n x) early in
      let named : f ≡ breach_at (length (spelt (take q bytes))) (names t (length (spelt (take q bytes))) x) =
      e₂ ∙ ap (breach_at q) (e₁ ∙ ap (λ n. names t n x) early) ∙ ap (λ n. breach_at n (names t (length (spelt (take q bytes))) x)) (sym long) in
      let found : o' ≡ option_or o (breach_at (length (spelt (take q bytes))) (names t (length (spelt (take q bytes))) x)) = e₃ ∙ ap (option_or o) named in
      subst₃ Followed (sym pushed) (sym state) (sym found) (follow_more (spelt (take q bytes)) x t o h)

  module _ (lawful : List Duty → Type 0) (judged : (l : List Duty) → length l ≤ 2688 → (lawful l → Allowed names after s 0 l) × (Allowed names after s 0 l → lawful l)) where
    pub follow_all : (l : List Duty) (t : S) (o : Option Breach) → length l ≤ 2688 → Followed l t o → Found names after s lawful l (lawful_length o (length l)) o
    follow_all l t None short h = (refl, (judged l short).1 h.0)
    follow_all l t (Some b) short h =
        let n : ℕ = b.quarter in
        let pushed : take (n + 1) l ≡ take n l ++ at l n ∷ [] = take_more l n Rest h.0 in
        let front : length (take n l) ≡ n = length-take-le n l (omega (arith, h.0)) in
        record {
          within = h.0;
          before = (judged (take n l) (omega (arith, front, h.0))).1 h.1;
          broken = λ k.
              let allowed = (judged (take (n + 1) l) (simp length-take (omega (arith, h.0)))).0 k in
              let none = allowed-last names after (take n l) s 0 (at l n) (subst (Allowed names after s 0) pushed allowed) in
              some-none b (sym h.2 ∙ ap (breach_at n) (ap (λ m. names (led after s 0 (take n l)) m (at l n)) (omega (arith, front)) ∙ none));
          named = h.2;
        }

    pub follow_bytes : (bytes : List ℕ) (q : ℕ) (t : S) (n : ℕ) (o : Option Breach) → length bytes ≤ 2688 → length bytes ≤ q → ((k : ℕ) → k < q → is_some (duty_of (get_or bytes k 0)) ≡ true) → n ≡ lawful_length o (length bytes) → Followed (spelt (take q bytes)) t o → Judged names after s lawful bytes (Ok (n, o))
    follow_bytes bytes q t n o short all letters e h =
        let long : length (spelt bytes) ≡ length bytes = length-map bytes (λ b. unwrap_or (duty_of b) Rest) in
        let count : lawful_length o (length (spelt bytes)) ≡ n = ap (lawful_length o) long ∙ sym e in
        let read : Followed (spelt bytes) t o = subst (λ bs. Followed (spelt bs) t o) (take_all q bytes all) h in (
          short,
          (λ k lt. letters k (omega arith)),
          subst (λ m. Found names after s lawful (spelt bytes) m o) count (follow_all (spelt bytes) t o (omega arith) read),
        )

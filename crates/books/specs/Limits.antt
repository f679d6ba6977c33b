-- Limits on what has gone by since the latest pause: a sentence about every such quarter s against the book's own counters.
-- What a sentence keeps is told in two halves, what it asks of every s and that this is enough.
use Rattle.std.specs.Prelude.{◌≡◌, ℕ, ◌+◌, ◌-◌, ◌<◌, ◌≤◌, Bool, true, false, cond, List, [], ◌∷◌, Some, None, Option, ◌≢◌, nat_le, refl}
use Rattle.std.proofs.Common.{sym, ap, subst, ◌∙◌, arith}
use Rattle.std.proofs.lemmas.Bool.{false≢true, leb-true, leb-false}
use Rattle.duty.specs.declared.Duty.{Duty}
use Rattle.duty.specs.declared.Duty.TheVariants.{Rest, Drive}
use Rattle.duty.specs.Duties.{driving, working}
use Rattle.duty.specs.Logs.{at, Latest, count}
use Rattle.duty.proofs.Counts.{count_more_one}
use Rattle.duty.proofs.Runs.{since_at, since-le, latest-since, latest_one}
use Rattle.rules.specs.declared.breach.Violation.{Violation}
use Rattle.books.specs.Broken.{FirstBroken, broken_test, named}
use Rattle.books.specs.Counters.{elapsed_at, counted}
use Rattle.books.specs.Sentences.{Rule, Keeps}

-- a status with c is not one without
pub status_not : (c : Duty → Bool) (x y z : Duty) → x ≡ y → c y ≡ false → x ≡ z → c z ≢ true
status_not c x y z e stands e' is = false≢true (sym stands ∙ ap c (sym e ∙ e') ∙ is)

-- a quarter that is not driven keeps whatever is asked of driving
pub undriven : {P : Type 0} (x y : Duty) → x ≡ y → driving y ≡ false → x ≡ Drive → P
undriven x y e stands drives = absurd (false≢true (sym stands ∙ ap driving (sym e ∙ drives)))

-- a quarter of rest keeps whatever is asked of duty
pub off_duty : {P : Type 0} (x : Duty) → x ≡ Rest → working x ≡ true → P
off_duty x e on = absurd (false≢true (sym (ap working e) ∙ on))

module _ (p : Duty → Bool) (n : ℕ) (l : List Duty) (k : ℕ) where
  -- what holds of the quarter that the counters go by holds of every latest one
  pub latest-all : (P : ℕ → Type 0) → P (since_at p n l k) → (s : ℕ) → Latest p l n k s → P s
  latest-all P h s latest = subst P (latest_one p n l k (since_at p n l k) s (latest-since p n l k) latest) h

  pub elapsed_kept : (held : ℕ) → elapsed_at p n held l k < held → (s : ℕ) → Latest p l n k s → k - s + 1 ≤ held
  elapsed_kept held h = latest-all (λ s. k - s + 1 ≤ held) (omega arith)

  pub elapsed_broken : (held : ℕ) → held ≤ elapsed_at p n held l k → ((s : ℕ) → Latest p l n k s → k - s + 1 ≤ held) → ⊥
  elapsed_broken held h keeps = let kept = keeps (since_at p n l k) (latest-since p n l k) in omega arith

  module _ (c : Duty → Bool) (counts : c (at l k) ≡ true) (limit : ℕ) where
    one_more : count c l (since_at p n l k) (k + 1) ≡ 1 + counted p n c l k
    one_more = count_more_one c l (since_at p n l k) k (since-le p n l k) ∙ ap (λ b. cond b 1 0 + counted p n c l k) counts

    pub counted-kept : counted p n c l k < limit → (s : ℕ) → Latest p l n k s → count c l s (k + 1) ≤ limit
    counted-kept h = latest-all (λ s. count c l s (k + 1) ≤ limit) (omega (arith, one_more))

    pub counted_broken : limit ≤ counted p n c l k → ((s : ℕ) → Latest p l n k s → count c l s (k + 1) ≤ limit) → ⊥
    counted_broken h keeps = let kept = keeps (since_at p n l k) (latest-since p n l k) in omega (arith, one_more)

    -- the first of the rules limits the count
    pub counted_test : (x : ℕ × Rule) → (Keeps x.1 l k → (s : ℕ) → Latest p l n k s → count c l s (k + 1) ≤ limit) → (((s : ℕ) → Latest p l n k s → count c l s (k + 1) ≤ limit) → Keeps x.1 l k) → FirstBroken (x ∷ []) l k (cond (nat_le limit (counted p n c l k)) (Some (named x)) None)
    counted_test x asks enough =
        broken_test l k x [] _ None (λ many keeps. counted_broken (leb-true _ _ many) (asks keeps)) (λ few. enough (counted-kept (leb-false _ _ few))) refl

  -- the first of the rules limits the quarters that go by
  pub elapsed_test : (held : ℕ) (x : ℕ × Rule) (xs : List (ℕ × Rule)) (o : Option Violation) → (Keeps x.1 l k → (s : ℕ) → Latest p l n k s → k - s + 1 ≤ held) → (((s : ℕ) → Latest p l n k s → k - s + 1 ≤ held) → Keeps x.1 l k) → FirstBroken xs l k o → FirstBroken (x ∷ xs) l k (cond (nat_le held (elapsed_at p n held l k)) (Some (named x)) o)
  elapsed_test held x xs o asks enough others =
      broken_test l k x xs _ o (λ late keeps. elapsed_broken held (leb-true _ _ late) (asks keeps)) (λ early. enough (elapsed_kept held (leb-false _ _ early))) others

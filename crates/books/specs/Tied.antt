-- A state machine tied to a rule set: its state along any log, and what it names there, in the words of the sentences.
use Rattle.std.specs.Prelude.{◌≡◌, ℕ, suc, ◌<◌, ◌≤◌, List, [], ◌∷◌, ◌++◌, length, take, Some, None, Option, refl}
use Rattle.std.proofs.Common.{sym, ap, subst, ◌∙◌, arith}
use Rattle.std.proofs.lemmas.List.{take_all, append-nil}
use Rattle.duty.specs.declared.Duty.{Duty}
use Rattle.duty.specs.Logs.{at}
use Rattle.rules.specs.declared.breach.Breach.{Breach}
use Rattle.rules.specs.declared.breach.Violation.{Violation}
use Rattle.rules.specs.declared.layered.Layered.{Layered}
use Rattle.rules.specs.Judged.{breach_at}
use Rattle.rules.specs.Layers.{moved}
use Rattle.rules.specs.Walk.{led, Allowed}
use Rattle.rules.proofs.Along.{along_led, along_allowed, along_each}
use Rattle.rules.specs.Piling.{both_name, both_move}
use Rattle.rules.specs.LayersLemmas.{named_none, moved-both, some-none}
use Rattle.books.specs.Sentences.{Rule}
use Rattle.books.specs.Sets.{placed, Lawful, FirstBreach}
use Rattle.books.specs.Broken.{FirstBroken, Sorted, none_kept, kept-none, broken_rule, broken_lowest, broken_both, broken_raised, placed-push}

pub record Tied {S : Type 0} (names : S → ℕ → Duty → Option Violation) (after : S → ℕ → Duty → S) (opened : S) (set : List (List Rule)) : Type 0 where
  pub state : List Duty → ℕ → S
  pub start : (l : List Duty) → state l 0 ≡ opened
  pub moves : (l : List Duty) (k : ℕ) → names (state l k) k (at l k) ≡ None → after (state l k) k (at l k) ≡ state l (suc k)
  pub says : (l : List Duty) (k : ℕ) → FirstBroken (placed 1 set) l k (names (state l k) k (at l k))

-- where nothing is named the state moves on
pub moved_on : {S : Type 0} (o : Option Violation) (new old : S) → o ≡ None → moved o new old ≡ new
moved_on o new old none = ap (λ p. moved p new old) none

breach-same : (a b : Breach) → Some a ≡ Some b → a ≡ b
breach-same a b e = cc

pub breach-some : (n : ℕ) (o : Option Violation) (b : Breach) → breach_at n o ≡ Some b → (v : Violation) × (o ≡ Some v) × (◌≡◌ {A = Breach} (record { quarter = n; rule = v.rule; layer = v.layer }) b)
breach-some n None b e = absurd (some-none b (sym e))
breach-some n (Some v) b e = (v, refl, breach-same _ b e)

module _ {S : Type 0} (names : S → ℕ → Duty → Option Violation) (after : S → ℕ → Duty → S) (opened : S) (set : List (List Rule)) (tied : Tied names after opened set) where
  pub lawful-allowed : (l : List Duty) → Lawful set l → Allowed names after opened 0 l
  lawful-allowed l h =
      subst (Allowed names after opened 0) (take_all (length l) l (omega arith))
      (along_allowed names after opened l (tied.state l) (tied.start l) (tied.moves l) (length l) (omega arith) (λ k lt. kept-none l k (placed 1 set) _ (tied.says l k) (h k lt)))

  each : (l : List Duty) (n : ℕ) → n ≤ length l → Allowed names after opened 0 (take n l) → (k : ℕ) → k < n → names (tied.state l k) k (at l k) ≡ None
  each l n le a = along_each names after opened l (tied.state l) (tied.start l) (tied.moves l) n le a

  pub allowed-lawful : (l : List Duty) → Allowed names after opened 0 l → Lawful set l
  allowed-lawful l a q lt =
      none_kept l q (placed 1 set) _ (tied.says l q) (each l (length l) (omega arith) (subst (Allowed names after opened 0) (sym (take_all (length l) l (omega arith))) a) q lt)

  -- a log keeps the set exactly when the machine allows it
  pub tied_judged : (l : List Duty) → (Lawful set l → Allowed names after opened 0 l) × (Allowed names after opened 0 l → Lawful set l)
  tied_judged l = (lawful-allowed l, allowed-lawful l)

  -- a breach that the machine names is the first breach of the set
  pub breached-first : Sorted (placed 1 set) → (l : List Duty) (n : ℕ) (b : Breach) → n < length l → Allowed names after opened 0 (take n l) → breach_at n (names (led after opened 0 (take n l)) n (at l n)) ≡ Some b → FirstBreach set l b
  breached-first sorted l n b lt a e =
      let along = each l n (omega arith) a in
      let there = along_led names after opened l (tied.state l) (tied.start l) (tied.moves l) n (omega arith) along in
      let o : Option Violation = names (tied.state l n) n (at l n) in
      let v = breach-some n o b (ap (λ t. breach_at n (names t n (at l n))) (sym there) ∙ e) in
      subst (FirstBreach set l) v.2
      (record {
        within = lt;
        before = λ k below. none_kept l k (placed 1 set) _ (tied.says l k) (along k below);
        broken = broken_rule l n (placed 1 set) o v.0 (tied.says l n) v.1;
        lowest = broken_lowest l n (placed 1 set) o v.0 sorted (tied.says l n) v.1;
      })

-- a layer of rules over a set
module _ {O U : Type 0} (nu : O → ℕ → Duty → Option Violation) (au : O → ℕ → Duty → O) (ou : O) (own : List Rule) (up : Tied nu au ou (own ∷ [])) (nl : U → ℕ → Duty → Option Violation) (al : U → ℕ → Duty → U) (ol : U) (set : List (List Rule)) (low : Tied nl al ol set) (few : length set < 255) where
  abbrev both : List Duty → ℕ → Layered O U
  both l k = record { own = up.state l k; below = low.state l k }

  pub tied-layer : Tied (both_name nu au nl al (length set)) (both_move nu au nl al (length set)) (record { own = ou; below = ol }) (set ++ own ∷ [])
  tied-layer = record {
    state = both;
    start = λ l i. record { own = up.start l i; below = low.start l i };
    moves = λ l k none.
        let n = named_none (length set) (nl (low.state l k) k (at l k)) (nu (up.state l k) k (at l k)) none in
        moved-both (nl (low.state l k) k (at l k)) (nu (up.state l k) k (at l k)) (record { own = au (up.state l k) k (at l k); below = al (low.state l k) k (at l k) }) (both l k) n.0 n.1
        ∙ (λ i. record { own = up.moves l k n.1 i; below = low.moves l k n.0 i });
    says = λ l k.
        subst (λ xs. FirstBroken xs l k (both_name nu au nl al (length set) (both l k) k (at l k))) (sym (placed-push 1 set own))
        (broken_both l k (placed 1 set) _ _ _ (low.says l k) (broken_raised l k (length set) few own _ (subst (λ xs. FirstBroken xs l k (nu (up.state l k) k (at l k))) (append-nil _) (up.says l k))));
  }

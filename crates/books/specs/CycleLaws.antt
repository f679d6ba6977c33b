-- The laws of the cycle: a state that is no worse stays so, and what is made from a row is a state.
use Rattle.std.specs.Prelude.{◌≡◌, ℕ, ◌≤◌, Bool, true, false, cond, List, Some, None, ◌==◌, refl}
use Rattle.std.proofs.Common.{sym, subst, subst₂, arith, rules}
use Rattle.std.proofs.lemmas.Bool.{cond-true, cond-false, cond_both, leb-false, lt-leb, eqb-false, ne_eqb}
use Rattle.duty.specs.declared.Duty.{Duty}
use Rattle.duty.specs.declared.Duty.TheVariants.{Rest, Work, Drive}
use Rattle.duty.specs.Duties.{resting, working}
use Rattle.duty.specs.Runs.{next_run}
use Rattle.rules.specs.declared.breach.Violation.{Violation}
use Rattle.rules.specs.LayersLemmas.{some-none, moved_either}
use Rattle.books.specs.declared.duty_cycle.row.CycleRow.{CycleRow}
use Rattle.books.specs.DayCounts.{NoMore, none_on, total_on, next_counts}
use Rattle.books.specs.Bounds.{CycleSound}
use Rattle.books.specs.DutyCycle.{NoWorseCycle, given_cycle, cycle_names, next_cycle, cycle_after, fits_cycle, remade_cycle}
use Rattle.books.specs.Tied.{moved_on}
use Rattle.books.specs.Eights.{none_least, total_more, next_more, counts_within, decides_within}

pub run_le : (full run : ℕ) (unbroken : Bool) → next_run full run unbroken ≤ full
run_le full run unbroken = grind arith

run_more : (full run run' : ℕ) (unbroken : Bool) → run ≤ run' → next_run full run unbroken ≤ next_run full run' unbroken
run_more full run run' unbroken h = grind arith

-- a run that is not full leaves a shorter one not full
counts_more : (full run run' : ℕ) (on on' : List ℕ) → run ≤ run' → run' ≤ full → NoMore on' on → NoMore (cond (run' == full) none_on on') (cond (run == full) none_on on)
counts_more full run run' on on' h le more = go (run' == full) refl
  where
    go : (b : Bool) → (run' == full) ≡ b → NoMore (cond b none_on on') (cond (run == full) none_on on)
    go true e = none_least _
    go false e =
        subst (λ t. NoMore on' (cond t none_on on)) (sym (ne_eqb run full (λ is. eqb-false run' full e (omega arith)))) more

next_no_worse : (a b : CycleRow) (q : ℕ) (x : Duty) → NoWorseCycle a b → NoWorseCycle (next_cycle a q x) (next_cycle b q x)
next_no_worse a b q x better =
    let same = better.restart in
    let grown : next_run b.restart b.rest (resting x) ≤ next_run b.restart a.rest (resting x) = run_more b.restart b.rest a.rest (resting x) better.rest in
    record {
      days = better.days;
      limit = better.limit;
      restart = same;
      duty =
          subst₂ (λ days full. NoMore (cond (next_run full a.rest (resting x) == full) none_on (next_counts days q a.duty (working x))) (next_cycle b q x).duty) (sym better.days) (sym same)
          (counts_more b.restart _ _ _ _ grown (run_le b.restart a.rest (resting x)) (next_more b.days q a.duty b.duty (working x) (working x) (omega arith) better.duty));
      rest = subst (λ full. next_run b.restart b.rest (resting x) ≤ next_run full a.rest (resting x)) (sym same) grown;
    }

unnamed : (b : Bool) (v : Violation) → cond b (Some v) None ≡ None → b ≡ false
unnamed true v e = absurd (some-none v e)
unnamed false v e = refl

names_no_worse : (a b : CycleRow) (q : ℕ) (x : Duty) → NoWorseCycle a b → cycle_names b q x ≡ None → cycle_names a q x ≡ None
names_no_worse a b q Rest better none = refl
names_no_worse a b q Work better none = refl
names_no_worse a b q Drive better none =
    let below = leb-false b.limit (total_on b.duty) (unnamed _ _ none) in
    cond-false _ _ _ (lt-leb a.limit (total_on a.duty) (omega (arith, below, better.limit, total_more a.duty b.duty better.duty)))

pub cycle_keeps : (a b : CycleRow) (q : ℕ) (x : Duty) → NoWorseCycle a b → cycle_names b q x ≡ None → (cycle_names a q x ≡ None) × NoWorseCycle (cycle_after a q x) (cycle_after b q x)
cycle_keeps a b q x better none =
    let too = names_no_worse a b q x better none in
    (too, subst₂ NoWorseCycle (sym (moved_on _ _ _ too)) (sym (moved_on _ _ _ none)) (next_no_worse a b q x better))

pub cycle_relieves : (s : CycleRow) (q : ℕ) → CycleSound s → cycle_names s q Drive ≡ None → NoWorseCycle (cycle_after s q Rest) (cycle_after s q Drive)
cycle_relieves s q sound none =
    subst (NoWorseCycle (next_cycle s q Rest)) (sym (moved_on (cycle_names s q Drive) (next_cycle s q Drive) s none))
    (record {
      days = refl;
      limit = refl;
      restart = refl;
      duty = counts_more s.restart 0 _ _ _ (omega arith) (run_le s.restart s.rest true) (next_more s.days q s.duty s.duty false true (omega arith) (λ i. omega arith));
      rest = omega arith;
    })

pub next_sound : (s : CycleRow) (q : ℕ) (x : Duty) → CycleSound s → CycleSound (next_cycle s q x)
next_sound s q x sound =
    let le = run_le s.restart s.rest (resting x) in (
      sound.0,
      (sound.1.0, sound.1.1, le),
      counts_within s.days s.restart s.rest _ q s.duty _ (working x) sound.0.0 le sound.2 refl,
    )

pub cycle_endures : (s : CycleRow) (q : ℕ) (x : Duty) → CycleSound s → CycleSound (cycle_after s q x)
cycle_endures s q x sound =
    moved_either CycleSound (cycle_names s q x) (next_cycle s q x) s (next_sound s q x sound) sound

pub fits_sound : (s : CycleRow) → fits_cycle s ≡ true → CycleSound s
fits_sound s e = search (rules, decides_within)

sound_fits : (s : CycleRow) → CycleSound s → fits_cycle s ≡ true
sound_fits s sound = search (rules, decides_within)

pub remade_sound : (s : CycleRow) → CycleSound (remade_cycle s)
remade_sound s =
    cond_both (fits_cycle s) s (given_cycle s.days s.limit s.restart) CycleSound (fits_sound s)
    (λ e. (omega arith, omega arith, none_least _))

pub cycle_restores : (s : CycleRow) → CycleSound s → remade_cycle s ≡ s
cycle_restores s sound = cond-true _ _ _ (sound_fits s sound)

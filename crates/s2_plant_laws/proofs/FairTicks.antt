-- The rule of fair clocks at a tick.
use Rattle.std.proofs.Common.{◌≡◌, ℕ, zero, suc, ◌<◌, ◌≤◌, List, [], ◌∷◌, take, refl, sym, subst, ◌∙◌, arith}
use Rattle.std.specs.Prelude.{Bool, true, false, not, ◌&&◌, ◌||◌, nat_lt, Some, None, if◌then◌else◌}
use Rattle.std.specs.declared.option.Option.{Option}
use Rattle.std.proofs.lemmas.Bool.Decides.{nat_tests}
use Rattle.s2_clock.specs.declared.watch.Slow.{Slow}
use Rattle.s2_clock.specs.TickWindow.{misses_in, fair_window}
use Rattle.s2_clock.specs.ClockWatch.{is_firing, is_tainted, window_at, windows_after, misses_after, slow_at, first_some, slow_of, fair_windows}
use Rattle.s2_clock.proofs.FairWindows.{recorded_fair}
use Rattle.s2_plant_laws.specs.FairClocks.{AreFair, NoneIsSlow, IsLeastSlow, FairTicks}

none_missed : misses_in fair_window ≤ 4
none_missed = omega arith

start_fair : AreFair fair_windows
start_fair zero h = none_missed
start_fair (suc zero) h = none_missed
start_fair (suc (suc zero)) h = none_missed
start_fair (suc (suc (suc p))) h = absurd (omega arith)

-- what a processor is told, by the tests
none_by : (t b : Bool) (s : Slow) → (if (not t && b) then Some s else None) ≡ None → t ≡ false → b ≡ false
none_by true b s h good = absurd cc
none_by false true s h good = absurd cc
none_by false false s h good = refl

quiet_by : (t b : Bool) (s : Slow) → (t ≡ false → b ≡ false) → (if (not t && b) then Some s else None) ≡ None
quiet_by true b s h = refl
quiet_by false true s h = absurd (let e = h refl in cc)
quiet_by false false s h = refl

some_by : (t b : Bool) (s slow : Slow) → (if (not t && b) then Some s else None) ≡ Some slow → (slow ≡ s) × (t ≡ false) × (b ≡ true)
some_by true b s slow h = absurd cc
some_by false false s slow h = absurd cc
some_by false true s slow h = (cc, refl, refl)

at_most : (n : ℕ) → nat_lt 4 n ≡ false → n ≤ 4
at_most n h = grind (arith, nat_tests)

not_above : (n : ℕ) → n ≤ 4 → nat_lt 4 n ≡ false
not_above n h = grind (arith, nat_tests)

above : (n : ℕ) → nat_lt 4 n ≡ true → 4 < n
above n h = grind (arith, nat_tests)

-- a processor of which nothing is said is not too slow
none_at : (mask : ℕ) (tainted : Option ℕ) (windows : List (List Bool)) (p : ℕ) → slow_at mask tainted windows p ≡ None → is_tainted tainted p ≡ false → misses_after mask windows p ≤ 4
none_at mask tainted windows p h good =
    at_most (misses_after mask windows p) (none_by (is_tainted tainted p) (nat_lt 4 (misses_after mask windows p)) (record { p = p; misses = misses_after mask windows p }) h good)

quiet_at : (mask : ℕ) (tainted : Option ℕ) (windows : List (List Bool)) (p : ℕ) → (is_tainted tainted p ≡ false → misses_after mask windows p ≤ 4) → slow_at mask tainted windows p ≡ None
quiet_at mask tainted windows p h =
    quiet_by (is_tainted tainted p) (nat_lt 4 (misses_after mask windows p)) (record { p = p; misses = misses_after mask windows p }) (λ good. not_above (misses_after mask windows p) (h good))

first_none : (x y z : Option Slow) → first_some (x ∷ y ∷ z ∷ []) ≡ None → (x ≡ None) × (y ≡ None) × (z ≡ None)
first_none None None None h = (refl, refl, refl)
first_none (Some a) y z h = absurd cc
first_none None (Some b) z h = absurd cc
first_none None None (Some c) h = absurd cc

none_first : (x y z : Option Slow) → x ≡ None → y ≡ None → z ≡ None → first_some (x ∷ y ∷ z ∷ []) ≡ None
none_first None None None h i k = refl
none_first (Some a) y z h i k = absurd cc
none_first None (Some b) z h i k = absurd cc
none_first None None (Some c) h i k = absurd cc

pub none_slow : (mask : ℕ) (tainted : Option ℕ) (windows : List (List Bool)) → slow_of mask tainted windows ≡ None → NoneIsSlow mask tainted windows
none_slow mask tainted windows h = by_three
  where
    three : (slow_at mask tainted windows 0 ≡ None) × (slow_at mask tainted windows 1 ≡ None) × (slow_at mask tainted windows 2 ≡ None)
    three = first_none (slow_at mask tainted windows 0) (slow_at mask tainted windows 1) (slow_at mask tainted windows 2) h

    by_three : (p : ℕ) → p < 3 → is_tainted tainted p ≡ false → misses_after mask windows p ≤ 4
    by_three zero low good = none_at mask tainted windows 0 three.0 good
    by_three (suc zero) low good = none_at mask tainted windows 1 three.1 good
    by_three (suc (suc zero)) low good = none_at mask tainted windows 2 three.2 good
    by_three (suc (suc (suc p))) low good = absurd (omega arith)

slow_none : (mask : ℕ) (tainted : Option ℕ) (windows : List (List Bool)) → NoneIsSlow mask tainted windows → slow_of mask tainted windows ≡ None
slow_none mask tainted windows h =
    none_first (slow_at mask tainted windows 0) (slow_at mask tainted windows 1) (slow_at mask tainted windows 2)
    (quiet_at mask tainted windows 0 (h 0 (omega arith))) (quiet_at mask tainted windows 1 (h 1 (omega arith))) (quiet_at mask tainted windows 2 (h 2 (omega arith)))

-- a processor that is named
least_at : (mask : ℕ) (tainted : Option ℕ) (windows : List (List Bool)) (slow : Slow) (p : ℕ) → p < 3 → slow_at mask tainted windows p ≡ Some slow →
    ((q : ℕ) → q < p → is_tainted tainted q ≡ false → misses_after mask windows q ≤ 4) → IsLeastSlow mask tainted windows slow
least_at mask tainted windows slow p low h before =
    let named : Slow = record { p = p; misses = misses_after mask windows p } in
    let is = some_by (is_tainted tainted p) (nat_lt 4 (misses_after mask windows p)) named slow h in
    subst (λ (s : Slow). IsLeastSlow mask tainted windows s) (sym is.0)
    (record { low = low; good = is.1; misses = refl; most = above (misses_after mask windows p) is.2; least = before })

least_by : (mask : ℕ) (tainted : Option ℕ) (windows : List (List Bool)) (slow : Slow) (x y z : Option Slow) →
    slow_at mask tainted windows 0 ≡ x → slow_at mask tainted windows 1 ≡ y → slow_at mask tainted windows 2 ≡ z → first_some (x ∷ y ∷ z ∷ []) ≡ Some slow → IsLeastSlow mask tainted windows slow
least_by mask tainted windows slow (Some a) y z ex ey ez h =
    let same : Some a ≡ Some slow = h in least_at mask tainted windows slow 0 (omega arith) (ex ∙ same) (λ q low. absurd (omega arith))
least_by mask tainted windows slow None (Some b) z ex ey ez h =
    let same : Some b ≡ Some slow = h in least_at mask tainted windows slow 1 (omega arith) (ey ∙ same) before
  where
    before : (q : ℕ) → q < 1 → is_tainted tainted q ≡ false → misses_after mask windows q ≤ 4
    before zero low good = none_at mask tainted windows 0 ex good
    before (suc q) low good = absurd (omega arith)
least_by mask tainted windows slow None None (Some c) ex ey ez h =
    let same : Some c ≡ Some slow = h in least_at mask tainted windows slow 2 (omega arith) (ez ∙ same) before
  where
    before : (q : ℕ) → q < 2 → is_tainted tainted q ≡ false → misses_after mask windows q ≤ 4
    before zero low good = none_at mask tainted windows 0 ex good
    before (suc zero) low good = none_at mask tainted windows 1 ey good
    before (suc (suc q)) low good = absurd (omega arith)
least_by mask tainted windows slow None None None ex ey ez h = absurd cc

-- the windows stay fair
pub stays_fair : (mask : ℕ) (tainted : Option ℕ) (windows : List (List Bool)) → AreFair windows → slow_of mask tainted windows ≡ None → AreFair (windows_after mask tainted windows)
stays_fair mask tainted windows old h = by_three
  where
    at : (p : ℕ) → p < 3 → misses_in (take 64 ((is_firing mask p || is_tainted tainted p) ∷ window_at windows p)) ≤ 4
    at p low = recorded_fair (is_firing mask p) (is_tainted tainted p) (window_at windows p) (old p low) (λ good. none_slow mask tainted windows h p low good)

    by_three : AreFair (windows_after mask tainted windows)
    by_three zero low = at 0 low
    by_three (suc zero) low = at 1 low
    by_three (suc (suc zero)) low = at 2 low
    by_three (suc (suc (suc p))) low = absurd (omega arith)

pub fair_ticks : FairTicks
fair_ticks = record {
  start = start_fair;
  none = none_slow;
  allowed = slow_none;
  least = λ mask tainted windows slow h. least_by mask tainted windows slow (slow_at mask tainted windows 0) (slow_at mask tainted windows 1) (slow_at mask tainted windows 2) refl refl refl h;
  stays = stays_fair;
}

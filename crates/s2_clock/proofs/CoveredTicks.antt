-- Ticks at which each processor is recorded as fired.
use Rattle.std.proofs.Common.{◌≡◌, ℕ, zero, suc, ◌≤◌, List, [], ◌∷◌, length, refl, sym, ap, ◌∙◌, arith}
use Rattle.std.specs.Prelude.{Bool, true, false, ◌||◌, ◌&&◌, not, nat_lt, Some, None, if◌then◌else◌}
use Rattle.std.specs.declared.option.Option.{Option}
use Rattle.std.proofs.lemmas.Bool.Decides.{nat_tests}
use Rattle.s2_clock.specs.declared.watch.Slow.{Slow}
use Rattle.s2_clock.specs.TickWindow.{misses_in, window_after, window_fired}
use Rattle.s2_clock.specs.ClockWatch.{is_firing, is_tainted, is_recorded_as_fired, is_covered, windows_after, windows_fired, windows_run, window_at, misses_after, slow_at, slow_of, first_some}
use Rattle.s2_clock.proofs.FairWindows.{misses-fired, fired_fair}

-- all three are
and_first : (a b : Bool) → (a && b) ≡ true → a ≡ true
and_first true b h = refl
and_first false b h = absurd cc

and_second : (a b : Bool) → (a && b) ≡ true → b ≡ true
and_second true b h = h
and_second false b h = absurd cc

module _ (mask : ℕ) (tainted : Option ℕ) (covered : is_covered mask tainted ≡ true) where
  first : is_recorded_as_fired mask tainted 0 ≡ true
  first = and_first (is_recorded_as_fired mask tainted 0) (is_recorded_as_fired mask tainted 1 && is_recorded_as_fired mask tainted 2) covered

  others : (is_recorded_as_fired mask tainted 1 && is_recorded_as_fired mask tainted 2) ≡ true
  others = and_second (is_recorded_as_fired mask tainted 0) (is_recorded_as_fired mask tainted 1 && is_recorded_as_fired mask tainted 2) covered

  second : is_recorded_as_fired mask tainted 1 ≡ true
  second = and_first (is_recorded_as_fired mask tainted 1) (is_recorded_as_fired mask tainted 2) others

  third : is_recorded_as_fired mask tainted 2 ≡ true
  third = and_second (is_recorded_as_fired mask tainted 1) (is_recorded_as_fired mask tainted 2) others

  three_fired : (a b c : List Bool) → windows_after mask tainted (a ∷ b ∷ c ∷ []) ≡ window_after true a ∷ window_after true b ∷ window_after true c ∷ []
  three_fired a b c =
      ap (λ (x : Bool). window_after x a ∷ window_after (is_recorded_as_fired mask tainted 1) b ∷ window_after (is_recorded_as_fired mask tainted 2) c ∷ []) first
      ∙ (ap (λ (x : Bool). window_after true a ∷ window_after x b ∷ window_after (is_recorded_as_fired mask tainted 2) c ∷ []) second
      ∙ ap (λ (x : Bool). window_after true a ∷ window_after true b ∷ window_after x c ∷ []) third)

  three_run : (n : ℕ) (a b c : List Bool) → windows_run mask tainted n (a ∷ b ∷ c ∷ []) ≡ window_fired n a ∷ window_fired n b ∷ window_fired n c ∷ []
  three_run zero a b c = refl
  three_run (suc n) a b c = ap (windows_after mask tainted) (three_run n a b c) ∙ three_fired (window_fired n a) (window_fired n b) (window_fired n c)

  pub covered_run : (n : ℕ) (w : List (List Bool)) → length w ≡ 3 → windows_fired n w ≡ windows_run mask tainted n w
  covered_run n [] h = absurd (omega arith)
  covered_run n (a ∷ []) h = absurd (omega arith)
  covered_run n (a ∷ b ∷ []) h = absurd (omega arith)
  covered_run n (a ∷ b ∷ c ∷ []) h = sym (three_run n a b c)
  covered_run n (a ∷ b ∷ c ∷ d ∷ w) h = absurd (omega arith)

  not_slow : (f t : Bool) (w : List Bool) → (f || t) ≡ true → misses_in w ≤ 4 → (not t && nat_lt 4 (misses_in (window_after f w))) ≡ false
  not_slow true true w h fair = refl
  not_slow false true w h fair = refl
  not_slow true false w h fair = let few = misses-fired w in grind (arith, nat_tests)
  not_slow false false w h fair = absurd cc

  none_at : (windows : List (List Bool)) (p : ℕ) → is_recorded_as_fired mask tainted p ≡ true → misses_in (window_at windows p) ≤ 4 → slow_at mask tainted windows p ≡ None
  none_at windows p r fair =
      ap (λ (b : Bool). if b then Some (let s : Slow = record { p = p; misses = misses_after mask windows p } in s) else None) (not_slow (is_firing mask p) (is_tainted tainted p) (window_at windows p) r fair)

  none_slow : (a b c : List Bool) → misses_in a ≤ 4 → misses_in b ≤ 4 → misses_in c ≤ 4 → slow_of mask tainted (a ∷ b ∷ c ∷ []) ≡ None
  none_slow a b c x y z =
      let w = a ∷ b ∷ c ∷ [] in
      ap (λ (o : Option Slow). first_some (o ∷ slow_at mask tainted w 1 ∷ slow_at mask tainted w 2 ∷ [])) (none_at w 0 first x)
      ∙ (ap (λ (o : Option Slow). first_some (None ∷ o ∷ slow_at mask tainted w 2 ∷ [])) (none_at w 1 second y)
      ∙ ap (λ (o : Option Slow). first_some (None ∷ None ∷ o ∷ [])) (none_at w 2 third z))

  pub covered_lawful : (n : ℕ) (w : List (List Bool)) → length w ≡ 3 → misses_in (window_at w 0) ≤ 4 → misses_in (window_at w 1) ≤ 4 → misses_in (window_at w 2) ≤ 4 → slow_of mask tainted (windows_run mask tainted n w) ≡ None
  covered_lawful n [] h x y z = absurd (omega arith)
  covered_lawful n (a ∷ []) h x y z = absurd (omega arith)
  covered_lawful n (a ∷ b ∷ []) h x y z = absurd (omega arith)
  covered_lawful n (a ∷ b ∷ c ∷ []) h x y z =
      ap (slow_of mask tainted) (three_run n a b c) ∙ none_slow (window_fired n a) (window_fired n b) (window_fired n c) (fired_fair n a x) (fired_fair n b y) (fired_fair n c z)
  covered_lawful n (a ∷ b ∷ c ∷ d ∷ w) h x y z = absurd (omega arith)

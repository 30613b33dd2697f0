-- Lawful ticks hold the sure work.
use Rattle.std.proofs.Common.{◌≡◌, ℕ, suc, ◌+◌, ◌%◌, ◌<◌, ◌≤◌, List, [], ◌∷◌, take, length, refl, sym, ap, subst, arith}
use Rattle.std.specs.Prelude.{Bool, true, false, nat_lt, if◌then◌else◌}
use Rattle.std.proofs.lemmas.List.{take-take}
use Rattle.std.proofs.lemmas.Bool.Decides.{nat_tests}
use Rattle.s2_plant_laws.specs.WorkSpan.{sure_work, span}
use Rattle.s2_clock.specs.TickWindow.{miss_of, misses_in, window_after}
use Rattle.s2_plant_laws.specs.TickHistory.{misses_allowed, refreshes, IsFairHistory, firing_after, work_in, FairClockWorks}
use Rattle.s2_plant_laws.proofs.Spans.{span_enough}
use Rattle.s2_plant_laws.proofs.LostTicks.{allowed_more, refreshes_none, refreshes_skip, refreshes_more, work_sure}

-- what a list of ticks sums to
record Sums (f : ℕ) (ticks : List Bool) : Type 0 where
  misses : ℕ
  firings : ℕ
  split : misses + firings ≡ length ticks
  fair : misses_in (take 64 ticks) ≤ 4
  within : misses ≤ misses_allowed (length ticks) (take 64 ticks)
  turn : firing_after f ticks < 256
  fits : firings ≡ work_in f ticks + refreshes (firing_after f ticks) firings

watch_more : (b : Bool) (ticks : List Bool) → window_after b (take 64 ticks) ≡ take 64 (b ∷ ticks)
watch_more b ticks = ap (λ (w : List Bool). b ∷ w) (take-take 63 64 ticks (omega arith))

next : (e : ℕ) → e + 1 ≡ suc e
next e = omega arith

within_more : (e misses : ℕ) (b : Bool) (ticks : List Bool) → misses_in (take 64 (b ∷ ticks)) ≤ 4 → misses ≤ misses_allowed e (take 64 ticks) →
    misses + miss_of b ≤ misses_allowed (suc e) (take 64 (b ∷ ticks))
within_more e misses b ticks fair_after within =
    let w = watch_more b ticks in
    let l = subst (λ (x : List Bool). misses_in x ≤ 4) (sym w) fair_after in
    let a = subst (λ (x : List Bool). misses_allowed e (take 64 ticks) + miss_of b ≤ misses_allowed (e + 1) x) w (allowed_more e b (take 64 ticks) l) in
    let n = subst (λ (k : ℕ). misses_allowed e (take 64 ticks) + miss_of b ≤ misses_allowed k (take 64 (b ∷ ticks))) (next e) a in
    omega arith

fired_sums : (f n work : ℕ) (b : Bool) → nat_lt n 254 ≡ b → n < 256 → (firings : ℕ) → firings ≡ work + refreshes n firings →
    firings + 1 ≡ work + (if b then 1 else 0) + refreshes ((n + 1) % 256) (firings + 1)
fired_sums f n work true h turn firings fits = let r = refreshes_skip n firings (grind (arith, nat_tests)) in omega arith
fired_sums f n work false h turn firings fits = let r = refreshes_more n firings (grind (arith, nat_tests)) turn in omega arith

sums : (f : ℕ) (ticks : List Bool) → f < 256 → IsFairHistory ticks → Sums f ticks
sums f [] turn fair = record { misses = 0; firings = 0; split = refl; fair = omega arith; within = omega arith; turn = turn; fits = let r = refreshes_none f in omega arith }
sums f (true ∷ ticks) turn fair =
    let s = sums f ticks turn fair.1 in
    record {
      misses = s.misses;
      firings = s.firings + 1;
      split = let e = s.split in omega arith;
      fair = fair.0;
      within = let h = within_more (length ticks) s.misses true ticks fair.0 s.within in omega arith;
      turn = omega arith;
      fits = fired_sums f (firing_after f ticks) (work_in f ticks) (nat_lt (firing_after f ticks) 254) refl s.turn s.firings s.fits;
    }
sums f (false ∷ ticks) turn fair =
    let s = sums f ticks turn fair.1 in
    record {
      misses = s.misses + 1;
      firings = s.firings;
      split = let e = s.split in omega arith;
      fair = fair.0;
      within = within_more (length ticks) s.misses false ticks fair.0 s.within;
      turn = s.turn;
      fits = let e = s.fits in omega arith;
    }

sure : (f : ℕ) (ticks : List Bool) (s : ℕ) → f < 256 → IsFairHistory ticks → s ≤ length ticks → sure_work s ≤ work_in f ticks
sure f ticks s turn fair le =
    let a = sums f ticks turn fair in
    work_sure s (length ticks) a.misses a.firings (work_in f ticks) (firing_after f ticks) (take 64 ticks) le a.turn a.fair a.split a.within a.fits

pub fair_clock_works : FairClockWorks
fair_clock_works f ticks turn fair = record {
  work = sure f ticks (length ticks) turn fair (omega arith);
  within = λ j one le. let a = sure f ticks (span j) turn fair le in let b = span_enough j one in omega arith;
}

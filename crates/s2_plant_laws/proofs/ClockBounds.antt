-- A tick leaves one processor within its bounds.
use Rattle.std.proofs.Common.{◌≡◌, ℕ, ◌+◌, ◌-◌, ◌%◌, ◌<◌, ◌≤◌, List, refl, inl, inr, arith}
use Rattle.std.specs.Prelude.{Bool, true, false, ◌↔◌, nat_lt, if◌then◌else◌}
use Rattle.std.proofs.lemmas.Bool.{cases_lt}
use Rattle.std.proofs.lemmas.Bool.Decides.{nat_tests}
use Rattle.s2_plant_laws.specs.WorkSpan.{span}
use Rattle.s2_clock.specs.TickWindow.{misses_in, window_after}
use Rattle.s2_plant_laws.specs.ClockPace.{ClockData, after_work, after_work_unless, after_miss, clock_after, WorkProgress, PostedInTime, BoundedClock, TickBoundsClock}
use Rattle.s2_plant_laws.proofs.Spans.{span_enough}
use Rattle.s2_plant_laws.proofs.LostTicks.{allowed_more, refreshes_skip, refreshes_more, refreshes_most, work_sure}

abbrev pub made : ℕ → ℕ → Bool → ℕ → List Bool → ClockData
made run fires full posted watch = record { run = run; fires = fires; full = full; posted = posted; watch = watch }

-- While a processor works, e is below `span j`.
late_contradicts : (j from e : ℕ) (c : ClockData) → 1 ≤ j → c.fires < 256 → misses_in c.watch ≤ 4 → WorkProgress j from e c → span j ≤ e → j ≤ c.run - from
late_contradicts j from e c one turn fair h le =
    let r = refreshes_most c.fires h.firings turn in
    let f = h.fits in
    let w = work_sure (span j) e h.misses h.firings (c.run - from) c.fires c.watch le turn fair h.split h.within (omega arith) in
    let b = span_enough j one in
    omega arith

still_short : (j from e : ℕ) (c : ClockData) → c.fires < 256 → WorkProgress j from e c → c.run - from < j
still_short j from e c turn h =
    let s = h.short in
    let r = refreshes_most c.fires h.firings turn in
    let f = h.fits in
    omega arith

pub working_soon : (j from e : ℕ) (c : ClockData) → 1 ≤ j → c.fires < 256 → misses_in c.watch ≤ 4 → WorkProgress j from e c → e < span j
working_soon j from e c one turn fair h =
    let s = still_short j from e c turn h in
    elim (cases_lt e (span j)) [ inl soon ↦ soon | inr late ↦ absurd (let l = late_contradicts j from e c one turn fair h late in omega arith) ]

-- a misses_in tick
stays_working : (j from e : ℕ) (c : ClockData) → misses_in (window_after false c.watch) ≤ 4 → WorkProgress j from e c → WorkProgress j from (e + 1) (after_miss c)
stays_working j from e c fair_after h = record {
  short = h.short;
  misses = h.misses + 1;
  firings = h.firings;
  split = let s = h.split in omega arith;
  within = let a = allowed_more e false c.watch fair_after in let w = h.within in omega arith;
  fits = h.fits;
}

pub stays_waiting : (j resumed from e : ℕ) (c d : ClockData) → c.run ≡ d.run → c.posted ≡ d.posted → PostedInTime j resumed from e c → PostedInTime j resumed from (e + 1) d
stays_waiting j resumed from e c d run posted h = record {
  at = let a = h.at in omega arith;
  worked = let a = h.worked in omega arith;
  soon = let a = h.soon in omega arith;
  past = let a = h.past in omega arith;
}

-- a firing that refreshes
refreshed : (j from e run fires posted : ℕ) (watch : List Bool) → misses_in (window_after true watch) ≤ 4 → 254 ≤ fires → fires < 256 →
    WorkProgress j from e (made run fires false posted watch) → WorkProgress j from (e + 1) (made run ((fires + 1) % 256) false posted (window_after true watch))
refreshed j from e run fires posted watch fair_after low turn h = record {
  short = h.short;
  misses = h.misses;
  firings = h.firings + 1;
  split = let s = h.split in omega arith;
  within = let a = allowed_more e true watch fair_after in let w = h.within in omega arith;
  fits = let r = refreshes_more fires h.firings low turn in let f = h.fits in omega arith;
}

-- a firing of work
cycled : (j from e run fires posted : ℕ) (watch : List Bool) → misses_in (window_after true watch) ≤ 4 → fires < 254 → run + 1 < from + j →
    WorkProgress j from e (made run fires false posted watch) → WorkProgress j from (e + 1) (made (run + 1) ((fires + 1) % 256) false posted (window_after true watch))
cycled j from e run fires posted watch fair_after turn more h = record {
  short = more;
  misses = h.misses;
  firings = h.firings + 1;
  split = let s = h.split in omega arith;
  within = let a = allowed_more e true watch fair_after in let w = h.within in omega arith;
  fits = let r = refreshes_skip fires h.firings turn in let f = h.fits in omega arith;
}

-- a firing that posts
posts : (j resumed from e run fires posted : ℕ) (watch : List Bool) → 1 ≤ j → misses_in watch ≤ 4 → fires < 254 → run + 1 ≡ from + j →
    WorkProgress j from e (made run fires false posted watch) →
    PostedInTime j resumed from (e + 1) (made run ((fires + 1) % 256) true (resumed + e + 1) (window_after true watch))
posts j resumed from e run fires posted watch one fair turn at h = record {
  at = at;
  worked = let f = h.fits in let s = h.split in omega arith;
  soon = let s = working_soon j from e (made run fires false posted watch) one (omega arith) fair h in omega arith;
  past = omega arith;
}

-- a firing of work, by whether the ask is a request
works : (j resumed from e run fires posted : ℕ) (watch : List Bool) (asks : Bool) → (asks ≡ true) ↔ (run + 1 ≡ from + j) → 1 ≤ j → misses_in watch ≤ 4 → misses_in (window_after true watch) ≤ 4 → fires < 254 →
    WorkProgress j from e (made run fires false posted watch) →
    BoundedClock j resumed from (e + 1) (after_work asks (resumed + e + 1) (made run ((fires + 1) % 256) false posted (window_after true watch)))
works j resumed from e run fires posted watch true at one fair fair_after turn h = record {
  fires = omega arith;
  fair = fair_after;
  progress = posts j resumed from e run fires posted watch one fair turn (at.0 refl) h;
}
works j resumed from e run fires posted watch false at one fair fair_after turn h = record {
  fires = omega arith;
  fair = fair_after;
  progress = let s = h.short in let ne : run + 1 ≡ from + j → ⊥ = λ e. absurd (let w = at.1 e in cc) in cycled j from e run fires posted watch fair_after turn (omega arith) h;
}

-- a firing, by the test whether it refreshes
fires_on : (j resumed from e run fires posted : ℕ) (full asks : Bool) (watch : List Bool) (b : Bool) → nat_lt fires 254 ≡ b → 1 ≤ j → (asks ≡ true) ↔ (run + 1 ≡ from + j) → misses_in (window_after true watch) ≤ 4 →
    BoundedClock j resumed from e (made run fires full posted watch) →
    BoundedClock j resumed from (e + 1) (if b then after_work_unless full asks (resumed + e + 1) (made run ((fires + 1) % 256) full posted (window_after true watch)) else made run ((fires + 1) % 256) full posted (window_after true watch))
fires_on j resumed from e run fires posted true asks watch true test one at fair_after h = record { fires = omega arith; fair = fair_after; progress = stays_waiting j resumed from e _ _ refl refl h.progress }
fires_on j resumed from e run fires posted true asks watch false test one at fair_after h = record { fires = omega arith; fair = fair_after; progress = stays_waiting j resumed from e _ _ refl refl h.progress }
fires_on j resumed from e run fires posted false asks watch true test one at fair_after h = works j resumed from e run fires posted watch asks at one h.fair fair_after (grind (arith, nat_tests)) h.progress
fires_on j resumed from e run fires posted false asks watch false test one at fair_after h = record {
  fires = omega arith;
  fair = fair_after;
  progress = refreshed j from e run fires posted watch fair_after (grind (arith, nat_tests)) h.fires h.progress;
}

misses_on : (j resumed from e run fires posted : ℕ) (full : Bool) (watch : List Bool) → misses_in (window_after false watch) ≤ 4 →
    BoundedClock j resumed from e (made run fires full posted watch) → BoundedClock j resumed from (e + 1) (made run fires full posted (window_after false watch))
misses_on j resumed from e run fires posted true watch fair_after h = record { fires = h.fires; fair = fair_after; progress = stays_waiting j resumed from e _ _ refl refl h.progress }
misses_on j resumed from e run fires posted false watch fair_after h = record { fires = h.fires; fair = fair_after; progress = stays_working j from e (made run fires false posted watch) fair_after h.progress }

pub tick_bounds_clock : TickBoundsClock
tick_bounds_clock j resumed from e asks true c one at fair_after h = fires_on j resumed from e c.run c.fires c.posted c.full asks c.watch (nat_lt c.fires 254) refl one at fair_after h
tick_bounds_clock j resumed from e asks false c one at fair_after h = misses_on j resumed from e c.run c.fires c.posted c.full c.watch fair_after h

-- the watch after a tick
watch_worked : (asks : Bool) (tick : ℕ) (c : ClockData) → (after_work asks tick c).watch ≡ c.watch
watch_worked true tick c = refl
watch_worked false tick c = refl

watch_full : (full asks : Bool) (tick : ℕ) (c : ClockData) → (after_work_unless full asks tick c).watch ≡ c.watch
watch_full true asks tick c = refl
watch_full false asks tick c = watch_worked asks tick c

watch_fired : (b full asks : Bool) (tick : ℕ) (n : ClockData) → (if b then after_work_unless full asks tick n else n).watch ≡ n.watch
watch_fired true full asks tick n = watch_full full asks tick n
watch_fired false full asks tick n = refl

pub clock_watch : (asks : Bool) (tick : ℕ) (fires : Bool) (c : ClockData) → (clock_after asks tick fires c).watch ≡ window_after fires c.watch
clock_watch asks tick true c = watch_fired (nat_lt c.fires 254) c.full asks tick (record c { fires = (c.fires + 1) % 256; watch = window_after true c.watch })
clock_watch asks tick false c = refl

-- A tick leaves the skew bounded, whatever the tainted processor does; so does an act.
use Rattle.std.proofs.Common.{◌≡◌, ℕ, ◌+◌, ◌<◌, ◌≤◌, List, length, refl, sym, ap, subst, inl, inr, ◌∙◌, arith}
use Rattle.std.specs.Prelude.{Bool, true, false, Some, None}
use Rattle.std.specs.declared.option.Option.{Option}
use Rattle.s2_clock.specs.TickWindow.{misses_in, window_after}
use Rattle.s2_clock.specs.ClockWatch.{is_firing}
use Rattle.s2_plant_laws.specs.WorkSpan.{span}
use Rattle.s2_plant_laws.specs.ClockPace.{ClockData, clock_after, BoundedClock}
use Rattle.s2_plant_laws.specs.BoundedSkew.{AgeBounds, SkewData, clock_at, is_latched, is_good, are_two_latched, age_after, since_resume, AllBounded, BoundedSkew, IsBeforeTimer, AllAsk}
use Rattle.s2_plant_laws.specs.BoundedSkew.{IsTickOf, TickBoundsSkew, IsActOn, ActBoundsSkew}
use Rattle.s2_plant_laws.specs.WaitingTime.{VerdictWaits, VerdictBoundsWait}
use Rattle.s2_plant_laws.proofs.ClockBounds.{tick_bounds_clock, clock_watch}
use Rattle.s2_plant_laws.proofs.SkewBounds.{good_idle, good_busy, works_by, waits_by, soon_of, young_next, posted_all}

-- the age that is kept is below the timer
before_timer : (timer j e : ℕ) (age : Option ℕ) → AgeBounds timer j e age → IsBeforeTimer timer age
before_timer timer j e None h = tt
before_timer timer j e (Some age) h = h.0

-- all good clocks of the new plant
good_after_tick : (timer j e : ℕ) (asks : ℕ → Bool) (mask : ℕ) (old new : SkewData) → old.ticks ≡ old.resumed + e → AllAsk asks j old → IsTickOf timer asks mask old new → BoundedSkew timer j old →
    AllBounded j old.resumed old.resumed_run (e + 1) old.tainted new.clocks
good_after_tick timer j e asks mask old new at ask f h p hp g =
    let was : since_resume old ≡ e = omega arith in
    let progress = subst (λ (x : ℕ). BoundedClock j old.resumed old.resumed_run x (clock_at old.clocks p)) was (h.each p hp g) in
    let is = f.clocks p hp g in
    let watch : (clock_at new.clocks p).watch ≡ window_after (is_firing mask p) (clock_at old.clocks p).watch = ap (λ (c : ClockData). c.watch) is ∙ clock_watch (asks p) new.ticks (is_firing mask p) (clock_at old.clocks p) in
    let fair_after = subst (λ (w : List Bool). misses_in w ≤ 4) watch (f.fair p hp g) in
    let tick : new.ticks ≡ old.resumed + e + 1 = let t = f.ticks in omega arith in
    let next = tick_bounds_clock j old.resumed old.resumed_run e (asks p) (is_firing mask p) (clock_at old.clocks p) h.needs (ask p hp g) fair_after progress in
    let then = subst (λ (x : ℕ). BoundedClock j old.resumed old.resumed_run (e + 1) (clock_after (asks p) x (is_firing mask p) (clock_at old.clocks p))) (sym tick) next in
    subst (λ (c : ClockData). BoundedClock j old.resumed old.resumed_run (e + 1) c) (sym is) then

-- the age, by whether two latches are latch_count
age_after_tick : (timer j resumed from e : ℕ) (t : Option ℕ) (cs : List ClockData) (ls : List Bool) (age : Option ℕ) (two : Bool) → are_two_latched ls ≡ two → length ls ≡ 3 →
    ((p : ℕ) → p < 3 → is_good t p ≡ true → is_latched ls p ≡ (clock_at cs p).full) → 1 ≤ j →
    AgeBounds timer j e age → IsBeforeTimer timer (age_after age two) → AllBounded j resumed from (e + 1) t cs → AgeBounds timer j (e + 1) (age_after age two)
age_after_tick timer j resumed from e t cs ls (Some age) two two_is three full one fits below all = (below, omega arith, omega arith)
age_after_tick timer j resumed from e t cs ls None true two_is three full one fits below all =
    let g = good_busy t ls three two_is in
    let w = waits_by j resumed from (e + 1) (clock_at cs g.0) (sym (full g.0 g.1 g.2) ∙ g.3) (all g.0 g.1 g.2) in
    let a = w.worked in
    let b = w.past in
    (below, omega arith, omega arith)
age_after_tick timer j resumed from e t cs ls None false two_is three full one fits below all =
    let g = good_idle t ls three two_is in
    works_by j resumed from (e + 1) (clock_at cs g.0) one (sym (full g.0 g.1 g.2) ∙ g.3) (all g.0 g.1 g.2)

-- the new plant's parts in place of the old one's
all_bounded_with : (j r r' f f' e e' : ℕ) (t t' : Option ℕ) (cs : List ClockData) → r' ≡ r → f' ≡ f → e' ≡ e → t' ≡ t → AllBounded j r f e t cs → AllBounded j r' f' e' t' cs
all_bounded_with j r r' f f' e e' t t' cs er ef ee et h p hp g =
    let s = h p hp (subst (λ (x : Option ℕ). is_good x p ≡ true) et g) in
    subst (λ (x : ℕ). BoundedClock j x f' e' (clock_at cs p)) (sym er) (subst (λ (x : ℕ). BoundedClock j r x e' (clock_at cs p)) (sym ef) (subst (λ (x : ℕ). BoundedClock j r f x (clock_at cs p)) (sym ee) s))

pub all_after_tick : (timer j e : ℕ) (asks : ℕ → Bool) (mask : ℕ) (old new : SkewData) → old.ticks ≡ old.resumed + e → AllAsk asks j old → IsTickOf timer asks mask old new → BoundedSkew timer j old →
    AllBounded j new.resumed new.resumed_run (since_resume new) new.tainted new.clocks
all_after_tick timer j e asks mask old new at ask f h =
    let t = f.ticks in
    let r = f.resumed in
    all_bounded_with j old.resumed new.resumed old.resumed_run new.resumed_run (e + 1) (since_resume new) old.tainted new.tainted new.clocks r f.run (omega arith) f.tainted (good_after_tick timer j e asks mask old new at ask f h)

skew_after_tick : (timer j e : ℕ) (asks : ℕ → Bool) (mask : ℕ) (old new : SkewData) → old.ticks ≡ old.resumed + e → AllAsk asks j old → IsTickOf timer asks mask old new → IsBeforeTimer timer new.age →
    BoundedSkew timer j old → BoundedSkew timer j new
skew_after_tick timer j e asks mask old new at ask f below h =
    let was : since_resume old ≡ e = omega arith in
    let now : since_resume new ≡ e + 1 = let t = f.ticks in let r = f.resumed in omega arith in
    let all = good_after_tick timer j e asks mask old new at ask f h in
    let before = before_timer timer j (since_resume old) old.age h.age in
    let fits = subst (λ (x : ℕ). AgeBounds timer j x old.age) was h.age in
    let age =
    age_after_tick timer j old.resumed old.resumed_run e old.tainted new.clocks new.latched old.age _ refl f.three f.latches h.needs fits
    (subst (λ (a : Option ℕ). IsBeforeTimer timer a) (f.age before) below) all
    in
    record {
      needs = h.needs;
      past = let t = f.ticks in let r = f.resumed in let p = h.past in omega arith;
      each = all_after_tick timer j e asks mask old new at ask f h;
      age = subst (λ (x : ℕ). AgeBounds timer j x new.age) (sym now) (subst (λ (a : Option ℕ). AgeBounds timer j (e + 1) a) (sym (f.age before)) age);
    }

pub tick_bounds_skew : TickBoundsSkew
tick_bounds_skew timer j asks mask old new ask f below h = skew_after_tick timer j (since_resume old) asks mask old new (let p = h.past in omega arith) ask f below h

waits_at_verdict : (timer j e skew : ℕ) (asks : ℕ → Bool) (mask : ℕ) (old new : SkewData) → old.ticks ≡ old.resumed + e → span j ≤ j + skew → skew ≤ timer → AllAsk asks j old → IsTickOf timer asks mask old new →
    BoundedSkew timer j old → VerdictWaits timer j skew new
waits_at_verdict timer j e skew asks mask old new at near room ask f h =
    let was : since_resume old ≡ e = omega arith in
    let now : since_resume new ≡ e + 1 = let t = f.ticks in let r = f.resumed in omega arith in
    let fits = subst (λ (x : ℕ). AgeBounds timer j x old.age) was h.age in
    let here = all_after_tick timer j e asks mask old new at ask f h in
    let before = before_timer timer j (since_resume old) old.age h.age in
    let soon : e + 1 ≤ span j + timer = soon_of timer j e old.age fits in
    record {
      soon = omega arith;
      all = λ p age hp g is late.
          posted_all j new.resumed new.resumed_run (since_resume new) (clock_at new.clocks p) _ refl h.needs (here p hp g)
          (λ s. young_next timer j e skew old.age (are_two_latched new.latched) age near room fits (omega arith) (sym (f.age before) ∙ is) late);
      waits = λ p hp g shut. let w = waits_by j new.resumed new.resumed_run (since_resume new) (clock_at new.clocks p) shut (here p hp g) in let a = w.worked in omega arith;
      worked = λ p hp g shut.
          let w = waits_by j new.resumed new.resumed_run (since_resume new) (clock_at new.clocks p) shut (here p hp g) in
          let a = w.worked in
          let b = w.past in
          let t = f.ticks in
          let r = f.resumed in
          (w.at, omega arith);
    }

pub verdict_bounds_wait : VerdictBoundsWait
verdict_bounds_wait timer j skew asks mask old new near room ask f h = waits_at_verdict timer j (since_resume old) skew asks mask old new (let p = h.past in omega arith) near room ask f h

-- an act leaves the skew bounded
all_after_act : (timer j : ℕ) (old new : SkewData) → IsActOn old new → BoundedSkew timer j old → AllBounded j new.resumed new.resumed_run (since_resume new) new.tainted new.clocks
all_after_act timer j old new a h p hp g =
    let e : since_resume new ≡ since_resume old = let t = a.ticks in let r = a.resumed in omega arith in
    let c = h.each p hp (a.good p hp g) in
    subst (λ (x : ClockData). BoundedClock j new.resumed new.resumed_run (since_resume new) x) (sym (a.clocks p hp g))
    (subst (λ (x : ℕ). BoundedClock j x new.resumed_run (since_resume new) (clock_at old.clocks p)) (sym a.resumed)
    (subst (λ (x : ℕ). BoundedClock j old.resumed x (since_resume new) (clock_at old.clocks p)) (sym a.run)
    (subst (λ (x : ℕ). BoundedClock j old.resumed old.resumed_run x (clock_at old.clocks p)) (sym e) c)))

age_after_act : (timer j : ℕ) (old new : SkewData) → IsActOn old new → BoundedSkew timer j old → AgeBounds timer j (since_resume new) new.age
age_after_act timer j old new a h =
    let e : since_resume new ≡ since_resume old = let t = a.ticks in let r = a.resumed in omega arith in
    elim a.age [
      | inl same ↦ subst (λ (x : Option ℕ). AgeBounds timer j (since_resume new) x) (sym same) (subst (λ (x : ℕ). AgeBounds timer j x old.age) (sym e) h.age)
      | inr lost ↦
          let g = good_idle new.tainted new.latched lost.three lost.few in
          let idle = works_by j new.resumed new.resumed_run (since_resume new) (clock_at new.clocks g.0) h.needs (sym (lost.latches g.0 g.1 g.2) ∙ g.3) (all_after_act timer j old new a h g.0 g.1 g.2) in
          subst (λ (x : Option ℕ). AgeBounds timer j (since_resume new) x) (sym lost.age) idle
    ]

pub act_bounds_skew : ActBoundsSkew
act_bounds_skew timer j old new a h = record {
  needs = h.needs;
  past = let t = a.ticks in let r = a.resumed in let p = h.past in omega arith;
  each = all_after_act timer j old new a h;
  age = age_after_act timer j old new a h;
}

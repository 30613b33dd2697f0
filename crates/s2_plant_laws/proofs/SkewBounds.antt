-- Two latches and a good processor; a resume; what bounded skew says of waiting times.
use Rattle.std.proofs.Common.{◌≡◌, ℕ, ◌+◌, ◌<◌, ◌≤◌, ◌≢◌, List, [], ◌∷◌, length, refl, sym, ap, subst, inl, inr, arith}
use Rattle.std.specs.Prelude.{Bool, true, false, not, ◌==◌, Some, None, ◌⊎◌}
use Rattle.std.specs.declared.option.Option.{Option}
use Rattle.std.proofs.lemmas.Bool.Decides.{nat_tests}
use Rattle.s2_plant_laws.specs.WorkSpan.{span}
use Rattle.s2_plant_laws.specs.ClockPace.{ClockData, WorkProgress, PostedInTime, ProgressBy, BoundedClock}
use Rattle.s2_plant_laws.specs.BoundedSkew.{AgeBounds, clock_at, is_latched, is_good, are_two_latched, age_after, since_resume, ClockAtResume, ResumeBoundsSkew}
use Rattle.s2_plant_laws.specs.WaitingTime.{SkewBoundsWait}
use Rattle.s2_plant_laws.proofs.LostTicks.{refreshes_none}
use Rattle.s2_plant_laws.proofs.ClockBounds.{working_soon}

-- one of two processors is good
pub either_good : (t : Option ℕ) (p q : ℕ) → p ≢ q → (is_good t p ≡ true) ⊎ (is_good t q ≡ true)
either_good None p q h = inl refl
either_good (Some t) p q h = either_by t p q (t == p) refl h
  where
    either_by : (t p q : ℕ) (b : Bool) → (t == p) ≡ b → p ≢ q → (not b ≡ true) ⊎ (not (t == q) ≡ true)
    either_by t p q true e h = inr (let s : (t == q) ≡ false = grind (arith, nat_tests) in ap not s)
    either_by t p q false e h = inl refl

-- a good processor whose latch is as given
abbrev pub GoodAt : Option ℕ → List Bool → Bool → Type 0
GoodAt t ls v = (p : ℕ) × (p < 3) × (is_good t p ≡ true) × (is_latched ls p ≡ v)

pick : (t : Option ℕ) (ls : List Bool) (v : Bool) (p q : ℕ) → p < 3 → q < 3 → p ≢ q → is_latched ls p ≡ v → is_latched ls q ≡ v → GoodAt t ls v
pick t ls v p q hp hq ne ep eq = elim (either_good t p q ne) [ inl g ↦ (p, hp, g, ep) | inr g ↦ (q, hq, g, eq) ]

good_open : (t : Option ℕ) (a b c : Bool) → are_two_latched (a ∷ b ∷ c ∷ []) ≡ false → GoodAt t (a ∷ b ∷ c ∷ []) false
good_open t false false c h = pick t (false ∷ false ∷ c ∷ []) false 0 1 (omega arith) (omega arith) (omega arith) refl refl
good_open t false true false h = pick t (false ∷ true ∷ false ∷ []) false 0 2 (omega arith) (omega arith) (omega arith) refl refl
good_open t true false false h = pick t (true ∷ false ∷ false ∷ []) false 1 2 (omega arith) (omega arith) (omega arith) refl refl
good_open t false true true h = absurd cc
good_open t true false true h = absurd cc
good_open t true true false h = absurd cc
good_open t true true true h = absurd cc

good_shut : (t : Option ℕ) (a b c : Bool) → are_two_latched (a ∷ b ∷ c ∷ []) ≡ true → GoodAt t (a ∷ b ∷ c ∷ []) true
good_shut t true true c h = pick t (true ∷ true ∷ c ∷ []) true 0 1 (omega arith) (omega arith) (omega arith) refl refl
good_shut t true false true h = pick t (true ∷ false ∷ true ∷ []) true 0 2 (omega arith) (omega arith) (omega arith) refl refl
good_shut t false true true h = pick t (false ∷ true ∷ true ∷ []) true 1 2 (omega arith) (omega arith) (omega arith) refl refl
good_shut t true false false h = absurd cc
good_shut t false true false h = absurd cc
good_shut t false false true h = absurd cc
good_shut t false false false h = absurd cc

-- a clock by whether it is full
pub works_by : (j resumed from e : ℕ) (c : ClockData) → 1 ≤ j → c.full ≡ false → BoundedClock j resumed from e c → e < span j
works_by j resumed from e c one idle h = working_soon j from e c one h.fires h.fair (subst (λ (b : Bool). ProgressBy b j resumed from e c) idle h.progress)

pub waits_by : (j resumed from e : ℕ) (c : ClockData) → c.full ≡ true → BoundedClock j resumed from e c → PostedInTime j resumed from e c
waits_by j resumed from e c shut h = subst (λ (b : Bool). ProgressBy b j resumed from e c) shut h.progress

-- the verdict
pub soon_of : (timer j e : ℕ) (age : Option ℕ) → AgeBounds timer j e age → e + 1 ≤ span j + timer
soon_of timer j e None h = omega arith
soon_of timer j e (Some age) h = omega arith

-- a good processor that still works finds a young age
pub young_next : (timer j e skew : ℕ) (age : Option ℕ) (two : Bool) (new : ℕ) → span j ≤ j + skew → skew ≤ timer → AgeBounds timer j e age → e + 1 < span j → age_after age two ≡ Some new → timer ≤ new → ⊥
young_next timer j e skew (Some age) two new near room fits soon is old = let a : age + 1 ≡ new = cc in omega arith
young_next timer j e skew None true new near room fits soon is old = let a : 0 ≡ new = cc in omega arith
young_next timer j e skew None false new near room fits soon is old = cc

pub posted_all : (j resumed from e : ℕ) (c : ClockData) (full : Bool) → c.full ≡ full → 1 ≤ j → BoundedClock j resumed from e c → (e < span j → ⊥) → c.full ≡ true
posted_all j resumed from e c true is one h old = is
posted_all j resumed from e c false is one h old = absurd (old (works_by j resumed from e c one is h))

three : {A : Type 0} → (xs : List A) → length xs ≡ 3 → (a : A) × (b : A) × (c : A) × (xs ≡ a ∷ b ∷ c ∷ [])
three [] h = absurd (omega arith)
three (a ∷ []) h = absurd (omega arith)
three (a ∷ b ∷ []) h = absurd (omega arith)
three (a ∷ b ∷ c ∷ []) h = (a, b, c, refl)
three (a ∷ b ∷ c ∷ d ∷ xs) h = absurd (omega arith)

pub good_idle : (t : Option ℕ) (ls : List Bool) → length ls ≡ 3 → are_two_latched ls ≡ false → GoodAt t ls false
good_idle t ls h two =
    let x = three ls h in
    subst (λ (l : List Bool). GoodAt t l false) (sym x.3) (good_open t x.0 x.1 x.2 (subst (λ (l : List Bool). are_two_latched l ≡ false) x.3 two))

pub good_busy : (t : Option ℕ) (ls : List Bool) → length ls ≡ 3 → are_two_latched ls ≡ true → GoodAt t ls true
good_busy t ls h two =
    let x = three ls h in
    subst (λ (l : List Bool). GoodAt t l true) (sym x.3) (good_shut t x.0 x.1 x.2 (subst (λ (l : List Bool). are_two_latched l ≡ true) x.3 two))

fresh_paced : (j resumed from : ℕ) (c : ClockData) → 1 ≤ j → ClockAtResume from c → BoundedClock j resumed from 0 c
fresh_paced j resumed from c one h = record {
  fires = h.fires;
  fair = h.fair;
  progress = subst (λ (b : Bool). ProgressBy b j resumed from 0 c) (sym h.full) (fresh_works j from c one h.run);
}
  where
    fresh_works : (j from : ℕ) (c : ClockData) → 1 ≤ j → c.run ≡ from → WorkProgress j from 0 c
    fresh_works j from c one run = record { short = omega arith; misses = 0; firings = 0; split = refl; within = omega arith; fits = let r = refreshes_none c.fires in omega arith }

pub resume_bounds_skew : ResumeBoundsSkew
resume_bounds_skew timer j d one h =
    let zero_is : since_resume d ≡ 0 = let n = h.now in omega arith in
    record {
      needs = one;
      past = let n = h.now in omega arith;
      each = λ p hp g. subst (λ (x : ℕ). BoundedClock j d.resumed d.resumed_run x (clock_at d.clocks p)) (sym zero_is) (fresh_paced j d.resumed d.resumed_run (clock_at d.clocks p) one (h.each p hp g));
      age = subst (λ (a : Option ℕ). AgeBounds timer j (since_resume d) a) (sym h.age) (omega arith);
    }

whole_of : (timer j e : ℕ) (age : Option ℕ) → AgeBounds timer j e age → e < span j + timer
whole_of timer j e None h = omega arith
whole_of timer j e (Some age) h = omega arith

young_of : (timer j e skew age : ℕ) → span j ≤ j + skew → e < span j → AgeBounds timer j e (Some age) → age < skew
young_of timer j e skew age near soon h = omega arith

pub skew_bounds_wait : SkewBoundsWait
skew_bounds_wait timer j skew d near h =
    let whole : since_resume d < span j + timer = whole_of timer j (since_resume d) d.age h.age in
    let past = h.past in
    record {
      whole = whole;
      works = λ p hp g idle. works_by j d.resumed d.resumed_run (since_resume d) (clock_at d.clocks p) h.needs idle (h.each p hp g);
      waits = λ p hp g shut.
          let w = waits_by j d.resumed d.resumed_run (since_resume d) (clock_at d.clocks p) shut (h.each p hp g) in
          let a = w.worked in
          omega arith;
      apart = λ p q hp hq gp gq sp sq.
          let u = waits_by j d.resumed d.resumed_run (since_resume d) (clock_at d.clocks p) sp (h.each p hp gp) in
          let v = waits_by j d.resumed d.resumed_run (since_resume d) (clock_at d.clocks q) sq (h.each q hq gq) in
          let a = u.soon in
          let b = v.worked in
          omega arith;
      young = λ p age hp g idle is.
          young_of timer j (since_resume d) skew age near (works_by j d.resumed d.resumed_run (since_resume d) (clock_at d.clocks p) h.needs idle (h.each p hp g))
          (subst (λ (a : Option ℕ). AgeBounds timer j (since_resume d) a) is h.age);
    }

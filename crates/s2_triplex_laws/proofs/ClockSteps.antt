-- The firings of a tick are, for the bounds of the skew, a tick of three clocks.
use Rattle.std.proofs.Common.{◌≡◌, ℕ, zero, suc, ◌+◌, ◌%◌, ◌^◌, ◌<◌, ◌≤◌, List, [], ◌∷◌, refl, sym, ap, subst, ◌∙◌, arith}
use Rattle.std.specs.Prelude.{Bool, true, false, not, ◌&&◌, ◌||◌, nat_lt, Some, None, is_some, if◌then◌else◌}
use Rattle.std.specs.declared.option.Option.{Option}
use Rattle.s2_ports.specs.declared.requests.Posted.{Posted}
use Rattle.s2_clock.specs.declared.numbers.TheConstants.{MISSES_ALLOWED, REFRESH_PERIOD}
use Rattle.s2_clock.specs.declared.watch.Slow.{Slow}
use Rattle.s2_clock.specs.TickWindow.{misses_in, window_after}
use Rattle.s2_clock.specs.ClockWatch.{is_firing, is_tainted, is_recorded_as_fired, window_at, slow_of}
use Rattle.s2_voter.specs.Timers.{timer_of}
use Rattle.s2_voter.specs.VoterState.{is_member, latch_of, has_two_latches}
use Rattle.s2_machine.specs.declared.ask.Ask.{Ask}
use Rattle.s2_machine.specs.declared.ask.Ask.TheVariants.{Local, Outside}
use Rattle.s2_plant_laws.specs.TickHistory.{refresh_from}
use Rattle.s2_plant_laws.specs.ClockPace.{ClockData, after_work as clock_after_work, after_work_unless, clock_after}
use Rattle.s2_plant_laws.specs.BoundedSkew.{clock_at, is_latched, are_two_latched, age_after, IsBeforeTimer, AllAsk, IsTickOf}
use Rattle.s2_plant_laws.specs.NextRequest.{NextRequest}
use Rattle.s2_plant_laws.proofs.FairTicks.{none_slow}
use Rattle.s2_plant_laws.proofs.VoterTimer.{voter_timer}
use Rattle.s2_triplex.specs.TriplexCores.{TriplexCore, IsTriplexCore}
use Rattle.s2_triplex.specs.ModuleState.{ModuleState, Replica, replica_of, replica_ask}
use Rattle.s2_triplex.specs.ModuleFiring.{is_working, after_work, after_work_unless_waiting, module_ticked, is_outside, is_posting}
use Rattle.s2_triplex.specs.TriplexState.{TriplexState, module_at, posted_at, is_good}
use Rattle.s2_triplex.specs.TickFirings.{after_firings}
use Rattle.s2_triplex.specs.StepRefusals.{slow_reason, tick_refusal}
use Rattle.s2_triplex_laws.specs.LatchAgreement.{IsGood, LatchAgreement}
use Rattle.s2_triplex_laws.specs.ReplicaEquality.{ReplicaEquality}
use Rattle.s2_triplex_laws.specs.TriplexInvariant.{clock_data, clock_of, skew_data, asks_from}
use Rattle.s2_triplex_laws.proofs.LocalCycles.{asked_local}
use Rattle.s2_triplex_laws.proofs.ReferenceGoesOn.{run_of_reached}
use Rattle.s2_triplex_laws.proofs.Firings.{good_member, firings_agree}
use Rattle.s2_triplex_laws.proofs.NextRequests.{asks_iff}

-- whether processor p asks for the outside
abbrev pub asks_of : TriplexCore → TriplexState → ℕ → Bool
asks_of k d p = is_outside (replica_ask k (replica_of (module_at d.modules p)))

pub clock_is : (d : TriplexState) (p : ℕ) → p < 3 → clock_at (skew_data d).clocks p ≡ clock_of d p
clock_is d zero h = refl
clock_is d (suc zero) h = refl
clock_is d (suc (suc zero)) h = refl
clock_is d (suc (suc (suc p))) h = absurd (omega arith)

pub latched_is : (d : TriplexState) (p : ℕ) → p < 3 → is_latched (skew_data d).latched p ≡ is_some (latch_of d.voter p)
latched_is d zero h = refl
latched_is d (suc zero) h = refl
latched_is d (suc (suc zero)) h = refl
latched_is d (suc (suc (suc p))) h = absurd (omega arith)

-- when each good processor asks
pub all_ask : (k : TriplexCore) (c : IsTriplexCore k) (d : TriplexState) (a : ReplicaEquality k d) (next : NextRequest (asks_from k a.start) d.frame) → AllAsk (asks_of k d) (next.cycles + 1) (skew_data d)
all_ask k c d a next p hp g =
    let x = a.each p hp g in
    let run = run_of_reached k c d a p hp g in
    let at = a.at in
    let iff = asks_iff k d.frame a.start next x.cycles x.quiet in
    let is : asks_of k d p ≡ asks_from k a.start x.cycles = ap (λ (s : Replica). is_outside (replica_ask k s)) x.is in
    let clock = ap (λ (c : ClockData). c.run) (clock_is d p hp) in
    (λ asks. let e = iff.0 (sym is ∙ asks) in omega arith, λ to. is ∙ iff.1 (omega arith))

-- a module's tick is its clock's
work_step : (k : TriplexCore) (seen f posted tick : ℕ) (m : ModuleState) (w : List Bool) (a : Ask) → m.port ≡ None → (a ≡ Local → (k.core.after_turn m.cpu m.local).run ≡ m.cpu.run + 1) →
    clock_data (after_work k seen (record m { fires = f }) a) (if is_outside a then tick else posted) w ≡ clock_after_work (is_outside a) tick (clock_data (record m { fires = f }) posted w)
work_step k seen f posted tick m w Local none room =
    ap (λ (r : ℕ). record { run = r; fires = f; full = is_some m.port; posted = posted; watch = w }) (room refl)
work_step k seen f posted tick m w (Outside r) none room = refl

fire_port : (k : TriplexCore) (seen f posted tick : ℕ) (m : ModuleState) (w : List Bool) (port : Option Posted) → m.port ≡ port →
    (replica_ask k (replica_of m) ≡ Local → (k.core.after_turn m.cpu m.local).run ≡ m.cpu.run + 1) →
    clock_data (after_work_unless_waiting k seen (record m { fires = f }) port) (if (not (is_some port) && is_outside (replica_ask k (replica_of m))) then tick else posted) w ≡
    after_work_unless (is_some port) (is_outside (replica_ask k (replica_of m))) tick (clock_data (record m { fires = f }) posted w)
fire_port k seen f posted tick m w (Some p) e room = refl
fire_port k seen f posted tick m w None e room = work_step k seen f posted tick m w (replica_ask k (replica_of m)) e room

fire_low : (k : TriplexCore) (seen f posted tick : ℕ) (m : ModuleState) (w : List Bool) (low : Bool) → (replica_ask k (replica_of m) ≡ Local → (k.core.after_turn m.cpu m.local).run ≡ m.cpu.run + 1) →
    clock_data (if low then after_work_unless_waiting k seen (record m { fires = f }) m.port else record m { fires = f }) (if (low && (not (is_some m.port) && is_outside (replica_ask k (replica_of m)))) then tick else posted) w ≡
    (if low then after_work_unless (is_some m.port) (is_outside (replica_ask k (replica_of m))) tick (clock_data (record m { fires = f }) posted w) else clock_data (record m { fires = f }) posted w)
fire_low k seen f posted tick m w true room = fire_port k seen f posted tick m w m.port refl room
fire_low k seen f posted tick m w false room = refl

working_is : (m : ModuleState) (member : Bool) → member ≡ true → m.muted ≡ false → is_working m member ≡ nat_lt m.fires refresh_from
working_is m member is awake = by_tests member m.muted (nat_lt m.fires refresh_from) is awake
  where
    by_tests : (a b c : Bool) → a ≡ true → b ≡ false → (a && (not b && c)) ≡ c
    by_tests true false c x y = refl
    by_tests true true c x y = absurd cc
    by_tests false b c x y = absurd cc

clock_fired : (k : TriplexCore) (seen posted tick : ℕ) (m : ModuleState) (w : List Bool) (member : Bool) → member ≡ true → m.muted ≡ false →
    (replica_ask k (replica_of m) ≡ Local → (k.core.after_turn m.cpu m.local).run ≡ m.cpu.run + 1) →
    clock_data (module_ticked k seen member true m) (if (true && is_posting k m member) then tick else posted) (window_after true w) ≡
    clock_after (is_outside (replica_ask k (replica_of m))) tick true (clock_data m posted w)
clock_fired k seen posted tick m w member is awake room =
    subst
    (λ (b : Bool).
    clock_data (if b then after_work_unless_waiting k seen (record m { fires = (m.fires + 1) % REFRESH_PERIOD }) m.port else record m { fires = (m.fires + 1) % REFRESH_PERIOD })
    (if (b && (not (is_some m.port) && is_outside (replica_ask k (replica_of m)))) then tick else posted) (window_after true w) ≡
    clock_after (is_outside (replica_ask k (replica_of m))) tick true (clock_data m posted w))
    (sym (working_is m member is awake)) (fire_low k seen ((m.fires + 1) % REFRESH_PERIOD) posted tick m (window_after true w) (nat_lt m.fires refresh_from) room)

clock_step : (k : TriplexCore) (seen posted tick : ℕ) (m : ModuleState) (w : List Bool) (member fires recorded : Bool) → recorded ≡ fires → member ≡ true → m.muted ≡ false →
    (replica_ask k (replica_of m) ≡ Local → (k.core.after_turn m.cpu m.local).run ≡ m.cpu.run + 1) →
    clock_data (module_ticked k seen member fires m) (if (fires && is_posting k m member) then tick else posted) (window_after recorded w) ≡
    clock_after (is_outside (replica_ask k (replica_of m))) tick fires (clock_data m posted w)
clock_step k seen posted tick m w member true recorded e is awake room =
    ap (λ (b : Bool). clock_data (module_ticked k seen member true m) (if (true && is_posting k m member) then tick else posted) (window_after b w)) e ∙ clock_fired k seen posted tick m w member is awake room
clock_step k seen posted tick m w member false recorded e is awake room = ap (λ (b : Bool). clock_data m posted (window_after b w)) e

-- a good processor's tick is recorded as it was
recorded_by : (b t : Bool) → not t ≡ true → (b || t) ≡ b
recorded_by true t h = refl
recorded_by false false h = refl
recorded_by false true h = absurd cc

recorded_is : (mask p : ℕ) (t : Option ℕ) → is_good t p ≡ true → is_recorded_as_fired mask t p ≡ is_firing mask p
recorded_is mask p t h = recorded_by (is_firing mask p) (is_tainted t p) h

clock_at_next : (k : TriplexCore) (d : TriplexState) (mask p : ℕ) → p < 3 →
    clock_of (after_firings k d mask) p ≡
    clock_data (module_ticked k d.accepted (is_member d.voter p) (is_firing mask p) (module_at d.modules p))
    (if (is_firing mask p && is_posting k (module_at d.modules p) (is_member d.voter p)) then d.ticks + 1 else posted_at d.posted p) (window_after (is_recorded_as_fired mask d.tainted p) (window_at d.windows p))
clock_at_next k d mask zero h = refl
clock_at_next k d mask (suc zero) h = refl
clock_at_next k d mask (suc (suc zero)) h = refl
clock_at_next k d mask (suc (suc (suc p))) h = absurd (omega arith)

clock_next : (k : TriplexCore) (c : IsTriplexCore k) (d : TriplexState) (mask : ℕ) (h : LatchAgreement k d) (a : ReplicaEquality k d) (p : ℕ) → p < 3 → IsGood d p →
    clock_at (skew_data (after_firings k d mask)).clocks p ≡ clock_after (asks_of k d p) (d.ticks + 1) (is_firing mask p) (clock_at (skew_data d).clocks p)
clock_next k c d mask h a p hp g =
    let m = module_at d.modules p in
    let x = a.each p hp g in
    let run = run_of_reached k c d a p hp g in
    let at = a.at in
    let low = a.low in
    let most = a.room in
    let spent = x.spent in
    let room : m.cpu.run + 1 < 2 ^ 64 = omega arith in
    clock_is (after_firings k d mask) p hp ∙
    (clock_at_next k d mask p hp ∙
    (clock_step k d.accepted (posted_at d.posted p) (d.ticks + 1) m (window_at d.windows p) (is_member d.voter p) (is_firing mask p) (is_recorded_as_fired mask d.tainted p) (recorded_is mask p d.tainted g)
    (good_member k d p hp g h) (h.good p hp g).awake (λ local. let one = c.core.run_after_turn m.cpu m.local (asked_local k (replica_of m) local) in omega arith) ∙
    ap (λ (z : ClockData). clock_after (asks_of k d p) (d.ticks + 1) (is_firing mask p) z) (sym (clock_is d p hp))))

-- no good processor is slow
not_slow : (o : Option Slow) → slow_reason o ≡ None → o ≡ None
not_slow None h = refl
not_slow (Some slow) h = absurd cc

not_tainted : (b : Bool) → not b ≡ true → b ≡ false
not_tainted false h = refl
not_tainted true h = absurd cc

window_next_is : (k : TriplexCore) (d : TriplexState) (mask p : ℕ) → p < 3 → (clock_of (after_firings k d mask) p).watch ≡ window_after (is_recorded_as_fired mask d.tainted p) (window_at d.windows p)
window_next_is k d mask p hp = ap (λ (c : ClockData). c.watch) (clock_at_next k d mask p hp)

is_fair : (k : TriplexCore) (d : TriplexState) (mask p : ℕ) → p < 3 → IsGood d p → tick_refusal d mask ≡ None → misses_in (clock_of (after_firings k d mask) p).watch ≤ MISSES_ALLOWED
is_fair k d mask p hp g lawful =
    subst (λ (w : List Bool). misses_in w ≤ MISSES_ALLOWED)
    (sym (window_next_is k d mask p hp ∙ ap (λ (b : Bool). window_after b (window_at d.windows p)) (recorded_is mask p d.tainted g)))
    (none_slow mask d.tainted d.windows (not_slow (slow_of mask d.tainted d.windows) lawful) p hp (not_tainted (is_tainted d.tainted p) g))

-- two latches
pub two_is : (x y z : Option Posted) → has_two_latches (x ∷ y ∷ z ∷ []) ≡ are_two_latched (is_some x ∷ is_some y ∷ is_some z ∷ [])
two_is (Some x) (Some y) (Some z) = refl
two_is (Some x) (Some y) None = refl
two_is (Some x) None (Some z) = refl
two_is (Some x) None None = refl
two_is None (Some y) (Some z) = refl
two_is None (Some y) None = refl
two_is None None (Some z) = refl
two_is None None None = refl

age_next : (k : TriplexCore) (d : TriplexState) (mask : ℕ) → d.voter.timer ≡ timer_of d.frame → IsBeforeTimer (timer_of d.frame) d.voter.age → (after_firings k d mask).voter.age ≡ age_after d.voter.age (are_two_latched (skew_data (after_firings k d mask)).latched)
age_next k d mask timer before =
    let v = (after_firings k d mask).voter in
    voter_timer.grows d.voter.timer d.voter.age (has_two_latches v.latches) (subst (λ (t : ℕ). IsBeforeTimer t d.voter.age) (sym timer) before) ∙ ap (age_after d.voter.age) (two_is (latch_of v 0) (latch_of v 1) (latch_of v 2))

pub tick_of_clocks : (k : TriplexCore) (c : IsTriplexCore k) (d : TriplexState) (mask : ℕ) → LatchAgreement k d → ReplicaEquality k d → tick_refusal d mask ≡ None →
    IsTickOf (timer_of d.frame) (asks_of k d) mask (skew_data d) (skew_data (after_firings k d mask))
tick_of_clocks k c d mask h a lawful = record {
  ticks = refl;
  resumed = refl;
  run = refl;
  tainted = refl;
  clocks = λ p hp g. clock_next k c d mask h a p hp g;
  fair = λ p hp g. subst (λ (z : ClockData). misses_in z.watch ≤ MISSES_ALLOWED) (sym (clock_is (after_firings k d mask) p hp)) (is_fair k d mask p hp g lawful);
  three = refl;
  latches = λ p hp g.
      latched_is (after_firings k d mask) p hp ∙
      (ap (λ (l : Option Posted). is_some l) ((firings_agree k c d mask h).good p hp g).latch ∙ sym (ap (λ (z : ClockData). z.full) (clock_is (after_firings k d mask) p hp)));
  age = age_next k d mask h.timer;
}

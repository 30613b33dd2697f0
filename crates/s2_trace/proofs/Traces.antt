-- From a timeline to what a trace is seen as.
use Rattle.std.proofs.Common.{◌≡◌, ℕ, zero, suc, ◌+◌, ◌-◌, ◌*◌, ◌<◌, ◌≤◌, inl, Bool, true, false, cond, List, [], ◌∷◌, ◌++◌, length, replicate, length-append, refl, sym, ap, arith, ◌∙◌, subst}
use Rattle.std.specs.Prelude.{Some, None, nat_lt}
use Rattle.std.proofs.lemmas.Bool.Decides.{nat_tests}
use Rattle.s2_machine.specs.declared.deliveries.Delivery.{Delivery}
use Rattle.s2_machine.specs.Machine.{Machine}
use Rattle.s2_machine.specs.MachineRun.{RunState, machine_run, run_of_cycles}
use Rattle.s2_single.specs.SingleMachine.{in_run}
use Rattle.s2_trace.specs.declared.numbers.TheConstants.{CHECKPOINTS, MOST_DELIVERIES}
use Rattle.s2_trace.specs.Timeline.{Timeline, reached}
use Rattle.s2_trace.specs.Travel.{slot, NeverFall, IsFresh, IsTimeline, HasArrived, pushed, fresh_timeline}
use Rattle.s2_trace.specs.TraceState.{TraceState, IsTrace, machine_at, deliveries_to, KeepsLast, AreUpTo}
use Rattle.s2_trace.proofs.Reaching.{run_to}
use Rattle.s2_trace.proofs.Arriving.{still_timeline}

-- what a trace is seen as
abbrev pub trace_of : Timeline → Bool → TraceState
trace_of l asked = record { start = l.start; every = l.every; deliveries = l.deliveries; present = l.present; slots = l.slots; asked = asked }

-- the machine at a run count, under the deliveries up to there or under all
pub machine_is : (start : Machine) (ds : List Delivery) (n : ℕ) → start.cpu.run ≡ 0 → NeverFall 0 ds → (machine_run start (deliveries_to n ds) n).machine ≡ reached start ds n
machine_is start ds n at_start order =
    let whole : n - 0 ≡ n = omega arith in
    ap (λ (k : ℕ). (run_of_cycles (n - k) k (in_run start []) (deliveries_to n ds)).machine) at_start
    ∙ (ap (λ (k : ℕ). (run_of_cycles k 0 (in_run start []) (deliveries_to n ds)).machine) whole
    ∙ ap (λ (x : RunState). x.machine) (run_to n n 0 0 (in_run start []) ds (omega arith) order))

pub kept_is : (l : Timeline) (asked : Bool) (t : TraceState) → trace_of l asked ≡ t → IsTimeline l → (i : ℕ) (m : Machine) → slot t.slots i ≡ Some m → m ≡ machine_at t m.cpu.run
kept_is l asked t seen k =
    subst (λ (q : TraceState). (i : ℕ) (m : Machine) → slot q.slots i ≡ Some m → m ≡ machine_at q m.cpu.run) seen
    (λ i m at. k.sound i m at ∙ sym (machine_is l.start l.deliveries m.cpu.run k.at_start k.order))

-- a trace at its start
none_kept : (n i : ℕ) → slot (replicate n None) i ≡ None
none_kept zero i = refl
none_kept (suc n) zero = refl
none_kept (suc n) (suc i) = none_kept n i

pub fresh_keeps : (start : Machine) (every : ℕ) → start.cpu.run ≡ 0 → 0 < every → IsTrace (fresh_timeline start every) false
fresh_keeps start every at_start some = record {
  timeline = record {
    at_start = at_start;
    some = some;
    order = tt;
    few = omega arith;
    places = refl;
    ready = inl (record { present_is = refl; waiting_are = refl });
    sound = λ i m at. absurd (let f : Some m ≡ None = sym at ∙ none_kept 16 i in cc);
  };
  known = (record { present_is = refl; waiting_are = refl }, none_kept 16);
}

-- one delivery more
never_fall_more : (low : ℕ) (ds : List Delivery) (d : Delivery) → NeverFall low ds → AreUpTo d.run ds → low ≤ d.run → NeverFall low (ds ++ d ∷ [])
never_fall_more low [] d order most from = (from, tt)
never_fall_more low (x ∷ ds) d order most from = (order.0, never_fall_more x.run ds d order.1 most.1 most.0)

up_to_more : (run : ℕ) (ds : List Delivery) (d : Delivery) → AreUpTo run ds → d.run ≤ run → AreUpTo run (ds ++ d ∷ [])
up_to_more run [] d most last = (last, tt)
up_to_more run (x ∷ ds) d most last = (most.0, up_to_more run ds d most.1 last)

-- the next one may follow
order_by : (l : Timeline) (d : Delivery) (r : Bool) → AreUpTo d.run l.deliveries → AreUpTo d.run (cond r (pushed l d) l).deliveries
order_by l d true order = up_to_more d.run l.deliveries d order (omega arith)
order_by l d false order = order

pub may_follow : (l l' : Timeline) (asked r : Bool) (d : Delivery) (t : TraceState) → trace_of l asked ≡ t → t.asked ≡ false → AreUpTo d.run t.deliveries → l' ≡ cond r (pushed l d) l
    → (asked ≡ false) × AreUpTo d.run l'.deliveries
may_follow l l' asked r d t seen first order is = (
  ap (λ (q : TraceState). q.asked) seen ∙ first,
  subst (λ (v : Timeline). AreUpTo d.run v.deliveries) (sym is)
      (order_by l d r (subst (λ (ds : List Delivery). AreUpTo d.run ds) (sym (ap (λ (q : TraceState). q.deliveries) seen)) order)),
)

few_more : (n : ℕ) → true ≡ nat_lt n MOST_DELIVERIES → n + 1 ≤ MOST_DELIVERIES
few_more n h = grind (arith, nat_tests)

pushed_fresh : (l : Timeline) (d : Delivery) → IsTimeline l → IsFresh l → ((i : ℕ) → slot l.slots i ≡ None) → AreUpTo d.run l.deliveries → true ≡ nat_lt (length l.deliveries) MOST_DELIVERIES → IsTrace (pushed l d) false
pushed_fresh l d k fresh none most room =
    let after : IsFresh (pushed l d) = record { present_is = fresh.present_is; waiting_are = ap (λ (ds : List Delivery). ds ++ d ∷ []) fresh.waiting_are } in
    let size : length (l.deliveries ++ d ∷ []) ≡ length l.deliveries + 1 = length-append l.deliveries (d ∷ []) in
    let few : length l.deliveries + 1 ≤ MOST_DELIVERIES = few_more (length l.deliveries) room in
    record {
      timeline = record {
        at_start = k.at_start;
        some = k.some;
        order = never_fall_more 0 l.deliveries d k.order most (omega arith);
        few = omega (arith, size, few);
        places = k.places;
        ready = inl after;
        sound = λ i m at. absurd (let f : Some m ≡ None = sym at ∙ none i in cc);
      };
      known = (after, none);
    }

push_by : (l : Timeline) (asked r : Bool) (d : Delivery) → IsTrace l asked → asked ≡ false → AreUpTo d.run l.deliveries → r ≡ nat_lt (length l.deliveries) MOST_DELIVERIES → IsTrace (cond r (pushed l d) l) asked
push_by l true r d k first most room = absurd cc
push_by l false false d k first most room = k
push_by l false true d k first most room = pushed_fresh l d k.timeline k.known.0 k.known.1 most room

pub push_keeps : (l l' : Timeline) (asked r : Bool) (d : Delivery) (t : TraceState) → trace_of l asked ≡ t → IsTrace l asked → t.asked ≡ false → AreUpTo d.run t.deliveries → r ≡ nat_lt (length l.deliveries) MOST_DELIVERIES
    → l' ≡ cond r (pushed l d) l → IsTrace l' asked
push_keeps l l' asked r d t seen k first most room is =
    subst (λ (v : Timeline). IsTrace v asked) (sym is)
    (push_by l asked r d k (ap (λ (q : TraceState). q.asked) seen ∙ first) (subst (λ (ds : List Delivery). AreUpTo d.run ds) (sym (ap (λ (q : TraceState). q.deliveries) seen)) most) room)

-- a run count was asked for
pub asked_keeps : (floor n : ℕ) (l v : Timeline) → IsTimeline l → HasArrived floor n l v → IsTrace v true
asked_keeps floor n l v k h = record { timeline = still_timeline k h; known = h.way.place }

reached_same : (l v : Timeline) (n : ℕ) → IsTimeline l → v.start ≡ l.start → v.deliveries ≡ l.deliveries → (asked : Bool) → reached v.start v.deliveries n ≡ machine_at (trace_of l asked) n
reached_same l v n k start_is deliveries_are asked =
    ap (λ (s : Machine). reached s v.deliveries n) start_is
    ∙ (ap (λ (ds : List Delivery). reached l.start ds n) deliveries_are
    ∙ sym (machine_is l.start l.deliveries n k.at_start k.order))

-- what is then told, of what a trace is seen as
pub record IsAskedFor (n : ℕ) (t u : TraceState) : Type 0 where
  pub present : u.present ≡ machine_at t n
  pub slots : KeepsLast t u
  pub rest : u ≡ record t { present = u.present; slots = u.slots; asked = true }

asked_by : (n : ℕ) (l v : Timeline) (asked : Bool) → IsTimeline l → HasArrived l.present.cpu.run n l v → IsAskedFor n (trace_of l asked) (trace_of v true)
asked_by n l v asked k h =
    let way = h.way in
    let same = way.same in
    record {
      present = h.present_is ∙ reached_same l v n k same.start_is same.deliveries_are asked;
      slots = record {
        kept = λ j past most near.
            let e = same.every_is in
            way.keeps.kept j (subst (λ (x : ℕ). l.present.cpu.run < j * x) (sym e) past) (subst (λ (x : ℕ). j * x ≤ v.present.cpu.run) (sym e) most)
            (subst (λ (x : ℕ). v.present.cpu.run < (j + CHECKPOINTS) * x) (sym e) near)
            ∙ ap Some (reached_same l v (j * v.every) k same.start_is same.deliveries_are asked ∙ ap (λ (x : ℕ). machine_at (trace_of l asked) (j * x)) e);
        stays = λ i none.
            let e = same.every_is in
            way.keeps.stays i (λ j past most. none j (subst (λ (x : ℕ). l.present.cpu.run < j * x) e past) (subst (λ (x : ℕ). j * x ≤ v.present.cpu.run) e most));
      };
      rest =
          ap (λ (s : Machine). record (trace_of v true) { start = s }) same.start_is
          ∙ (ap (λ (x : ℕ). record (trace_of v true) { start = l.start; every = x }) same.every_is
          ∙ ap (λ (ds : List Delivery). record (trace_of v true) { start = l.start; every = l.every; deliveries = ds }) same.deliveries_are);
    }

pub is_asked_for : (n : ℕ) (l v : Timeline) (asked : Bool) (t : TraceState) → trace_of l asked ≡ t → IsTimeline l → HasArrived l.present.cpu.run n l v → IsAskedFor n t (trace_of v true)
is_asked_for n l v asked t seen k h = subst (λ (q : TraceState). IsAskedFor n q (trace_of v true)) seen (asked_by n l v asked k h)

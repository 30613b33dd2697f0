-- The start of a run to a run count, and what its end says.
use Rattle.std.proofs.Common.{◌≡◌, ℕ, ◌<◌, ◌≤◌, inl, inr, List, length, [], refl, sym, ap, arith, ◌∙◌, subst, ⊎_elim}
use Rattle.std.specs.Prelude.{Some, None, min}
use Rattle.std.specs.declared.option.Option.{Option}
use Rattle.s2_machine.specs.declared.deliveries.Delivery.{Delivery}
use Rattle.s2_machine.specs.Machine.{Machine}
use Rattle.s2_machine.specs.MachineRun.{RunState, later_deliveries, after_due_deliveries}
use Rattle.s2_single.specs.SingleMachine.{in_run}
use Rattle.s2_trace.specs.Timeline.{Timeline, reached, settled}
use Rattle.s2_trace.specs.Travel.{slot, IsNewestTo, IsLatestSlot, IsFresh, IsHere, AreSound, IsTimeline, IsSameProgram, IsOnTheWay, HasArrived, IsPutBack, resumed, restarted}
use Rattle.s2_trace.proofs.Reaching.{due_counts, later_again, none_due}

same_program : (t : Timeline) → IsSameProgram t t
same_program t = record { start_is = refl; every_is = refl; deliveries_are = refl }

pub stays_put : (n : ℕ) (t : Timeline) → IsTimeline t → t.present.cpu.run ≤ n → IsPutBack n t t
stays_put n t k low = record { same = same_program t; slots_are = refl; ready = k.ready; within = low; stays = λ e. refl; newest = λ past. absurd (omega arith) }

pub is_resumed : (n i : ℕ) (t u : Timeline) → IsTimeline t → n < t.present.cpu.run → IsLatestSlot n t.slots (Some i) → slot t.slots i ≡ Some u.present → u ≡ resumed t u.present → IsPutBack n t u
is_resumed n i t u k past latest at is =
    let newest : IsNewestTo n t.slots (Some u.present) = subst (IsNewestTo n t.slots) at latest.2 in
    let low : u.present.cpu.run ≤ n = newest.0 in
    subst (λ (v : Timeline). IsPutBack n t v) (sym is) (record {
      same = record { start_is = refl; every_is = refl; deliveries_are = refl };
      slots_are = refl;
      ready = inr (record { here = k.sound i u.present at; wait = refl });
      within = low;
      stays = λ e. absurd (omega arith);
      newest = λ e. newest.1;
    })

pub is_restarted : (n : ℕ) (t u : Timeline) → IsTimeline t → n < t.present.cpu.run → IsLatestSlot n t.slots None → u ≡ restarted t → IsPutBack n t u
is_restarted n t u k past none is =
    let first = k.at_start in
    subst (λ (v : Timeline). IsPutBack n t v) (sym is) (record {
      same = record { start_is = refl; every_is = refl; deliveries_are = refl };
      slots_are = refl;
      ready = inl (record { present_is = refl; waiting_are = refl });
      within = omega arith;
      stays = λ e. absurd (omega arith);
      newest = λ e i m at low. (let later = none i m at in absurd (omega arith));
    })

-- the deliveries act that are due
settles_fresh : (u : Timeline) → u.start.cpu.run ≡ 0 → IsFresh u → IsHere (settled u)
settles_fresh u at_start f =
    let run_is : u.present.cpu.run ≡ 0 = ap (λ (m : Machine). m.cpu.run) f.present_is ∙ at_start in
    let its_run : (settled u).present.cpu.run ≡ 0 = due_counts u.present.cpu.run (in_run u.present []) u.waiting ∙ run_is in
    let from_start : (settled u).present ≡ (after_due_deliveries (in_run u.start []) u.start.cpu.run u.waiting).machine =
    ap (λ (m : Machine). (after_due_deliveries (in_run m []) m.cpu.run u.waiting).machine) f.present_is in
    let all : (after_due_deliveries (in_run u.start []) u.start.cpu.run u.waiting).machine ≡ (after_due_deliveries (in_run u.start []) u.start.cpu.run u.deliveries).machine =
    ap (λ (ds : List Delivery). (after_due_deliveries (in_run u.start []) u.start.cpu.run ds).machine) f.waiting_are in
    let first : (after_due_deliveries (in_run u.start []) u.start.cpu.run u.deliveries).machine ≡ reached u.start u.deliveries 0 =
    ap (λ (k : ℕ). (after_due_deliveries (in_run u.start []) k u.deliveries).machine) at_start in
    record {
      here = from_start ∙ (all ∙ (first ∙ ap (reached u.start u.deliveries) (sym its_run)));
      wait = ap (λ (k : ℕ). later_deliveries k u.waiting) (run_is ∙ sym its_run) ∙ ap (later_deliveries (settled u).present.cpu.run) f.waiting_are;
    }

settles_here : (u : Timeline) → IsHere u → IsHere (settled u)
settles_here u h =
    let run = u.present.cpu.run in
    let still : (settled u).present ≡ u.present =
    ap (λ (ds : List Delivery). (after_due_deliveries (in_run u.present []) run ds).machine) h.wait
    ∙ ap (λ (x : RunState). x.machine) (none_due run (in_run u.present []) u.deliveries) in
    record {
      here = still ∙ (h.here ∙ ap (λ (m : Machine). reached u.start u.deliveries m.cpu.run) (sym still));
      wait =
          ap (later_deliveries run) h.wait
          ∙ (later_again run run u.deliveries (omega arith)
          ∙ ap (λ (m : Machine). later_deliveries m.cpu.run u.deliveries) (sym still));
    }

sound_same : (t u : Timeline) → IsSameProgram t u → u.slots ≡ t.slots → AreSound t → AreSound u
sound_same t u same slots sound = λ i m at.
    sound i m (ap (λ (s : List (Option Machine)). slot s i) (sym slots) ∙ at)
    ∙ (ap (λ (s : Machine). reached s t.deliveries m.cpu.run) (sym same.start_is)
    ∙ ap (λ (ds : List Delivery). reached u.start ds m.cpu.run) (sym same.deliveries_are))

-- a run from there
pub on_the_way : (floor n : ℕ) (t u v : Timeline) → IsTimeline t → IsPutBack (min floor n) t u → v ≡ settled u → IsOnTheWay floor n v v
on_the_way floor n t u v k back is =
    let at_start : u.start.cpu.run ≡ 0 = ap (λ (m : Machine). m.cpu.run) back.same.start_is ∙ k.at_start in
    let its_run : (settled u).present.cpu.run ≡ u.present.cpu.run = due_counts u.present.cpu.run (in_run u.present []) u.waiting in
    let within : (settled u).present.cpu.run ≤ n = (let w = back.within in omega arith) in
    let below : (settled u).present.cpu.run ≤ floor = (let w = back.within in omega arith) in
    subst (λ (x : Timeline). IsOnTheWay floor n x x) (sym is) (record {
      at_start = at_start;
      some = subst (λ (e : ℕ). 0 < e) (sym back.same.every_is) k.some;
      same = record { start_is = refl; every_is = refl; deliveries_are = refl };
      place = ⊎_elim (λ (f : IsFresh u). settles_fresh u at_start f) (λ (h : IsHere u). settles_here u h) back.ready;
      within = within;
      places = ap length back.slots_are ∙ k.places;
      keeps = record { kept = λ j past most near. absurd (omega arith); stays = λ i none. refl };
      sound = sound_same t u back.same back.slots_are k.sound;
    })

pub arrived_from : (floor n : ℕ) (t u v w : Timeline) → IsPutBack (min floor n) t u → v ≡ settled u → HasArrived floor n v w → HasArrived floor n t w
arrived_from floor n t u v w back is h =
    let way = h.way in
    record {
      way = record {
        at_start = way.at_start;
        some = way.some;
        same = record {
          start_is = way.same.start_is ∙ (ap (λ (x : Timeline). x.start) is ∙ back.same.start_is);
          every_is = way.same.every_is ∙ (ap (λ (x : Timeline). x.every) is ∙ back.same.every_is);
          deliveries_are = way.same.deliveries_are ∙ (ap (λ (x : Timeline). x.deliveries) is ∙ back.same.deliveries_are);
        };
        place = way.place;
        within = way.within;
        places = way.places;
        keeps = record {
          kept = way.keeps.kept;
          stays = λ i none. way.keeps.stays i none ∙ ap (λ (s : List (Option Machine)). slot s i) (ap (λ (x : Timeline). x.slots) is ∙ back.slots_are);
        };
        sound = way.sound;
      };
      present_is = h.present_is;
    }

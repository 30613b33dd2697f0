-- A run to a run count, a stretch at a time.
use Rattle.std.proofs.Common.{◌≡◌, ◌≢◌, ℕ, ◌+◌, ◌-◌, ◌*◌, ◌/◌, ◌%◌, ◌<◌, ◌≤◌, Bool, true, false, cond, List, [], ◌∷◌, length, refl, sym, ap, arith, ◌∙◌, subst, ⊎_elim}
use Rattle.std.specs.Prelude.{nat_le, slice_set, Some, None, ◌^◌, min}
use Rattle.std.specs.declared.option.Option.{Option}
use Rattle.std.proofs.lemmas.Bool.{cases_lt}
use Rattle.std.proofs.lemmas.List.{length-set, get_or-set_same, get_or-set_other}
use Rattle.s2_machine.specs.declared.deliveries.Delivery.{Delivery}
use Rattle.s2_machine.specs.Machine.{Machine}
use Rattle.s2_machine.specs.MachineRun.{RunState, later_deliveries, run_of_cycles}
use Rattle.s2_single.specs.SingleMachine.{in_run}
use Rattle.s2_trace.specs.Timeline.{Timeline, after_cycles, reached, settled, after_stretch, cycles_ahead, to_delivery, to_checkpoint, is_checkpoint, slot_of, after_step}
use Rattle.s2_trace.specs.Travel.{slot, IsHere, AreSound, Keeps, IsOnTheWay, HasArrived}
use Rattle.s2_single.proofs.DueDeliveries.{later_is}
use Rattle.s2_trace.proofs.Reaching.{NoneBefore, Settles, stretch, settles, split, halted_run, due_counts, grows, moves, later_again}
use Rattle.s2_trace.proofs.Multiples.{at_multiple, next_multiple, some_to_checkpoint, quotient_of_multiple, rest_of_multiple, is_kept, kept_above, kept_at_multiple, other_place}

-- ---- how far a stretch goes

-- the first of the deliveries is later than a run count
abbrev pub IsLater : ℕ → List Delivery → Type 0
IsLater run [] = Unit {0}
IsLater run (d ∷ ds) = run < d.run

later_heads_by : (run : ℕ) (d : Delivery) (ds : List Delivery) (t : Bool) → nat_le d.run run ≡ t → IsLater run (later_deliveries run ds) → IsLater run (cond t (later_deliveries run ds) (d ∷ ds))
later_heads_by run d ds true is h = h
later_heads_by run d ds false is h = later_is d run is

later_heads : (run : ℕ) (ds : List Delivery) → IsLater run (later_deliveries run ds)
later_heads run [] = tt
later_heads run (d ∷ ds) = later_heads_by run d ds (nat_le d.run run) refl (later_heads run ds)

pub record Ahead (a most run : ℕ) (ds : List Delivery) : Type 0 where
  pub some : 0 < a
  pub within : a ≤ most
  pub none : NoneBefore (run + a) ds

ahead_of : (most run : ℕ) (ds : List Delivery) → 0 < most → IsLater run ds → Ahead (to_delivery most run ds) most run ds
ahead_of most run [] some later = record { some = some; within = omega arith; none = tt }
ahead_of most run (d ∷ ds) some later = record { some = omega arith; within = omega arith; none = omega arith }

-- ---- one stretch

-- a timeline after the cycles of a stretch and the deliveries that are then due
pub record Advanced (n : ℕ) (t u : Timeline) : Type 0 where
  pub place : IsHere u
  pub within : u.present.cpu.run ≤ n
  pub moves : t.present.cpu.run < u.present.cpu.run
  pub next : (j : ℕ) → t.present.cpu.run < j * t.every → u.present.cpu.run ≤ j * t.every

advanced : (n : ℕ) (t : Timeline) → t.start.cpu.run ≡ 0 → 0 < t.every → IsHere t → t.present.halt ≡ None → t.present.cpu.run < n → n < 2 ^ 64 → Advanced n t (settled (after_stretch n t))
advanced n t at_start some_every place running low small =
    let run = t.present.cpu.run in
    let a = cycles_ahead n t in
    let stop = run + a in
    let m1 = after_cycles a t.present in
    let later : IsLater run t.waiting = subst (IsLater run) (sym place.wait) (later_heads run t.deliveries) in
    let near : 0 < to_checkpoint t.every run = some_to_checkpoint t.every run some_every in
    let most : 0 < min (n - run) (to_checkpoint t.every run) = omega arith in
    let ahead = ahead_of (min (n - run) (to_checkpoint t.every run)) run t.waiting most later in
    let small_stop : t.present.cpu.run + a < 2 ^ 64 = (let w = ahead.within in omega arith) in
    let u = settled (after_stretch n t) in
    let comes : u.present ≡ reached t.start t.deliveries stop = stretch t.start t.present t.deliveries t.waiting a stop place.here place.wait refl ahead.none (let w = ahead.within in omega arith) in
    let rests : Settles t.start t.deliveries stop = settles t.start t.deliveries stop at_start (let w = ahead.within in omega arith) in
    let its_run : u.present.cpu.run ≡ (reached t.start t.deliveries stop).cpu.run = ap (λ (m : Machine). m.cpu.run) comes in
    let same_run : u.present.cpu.run ≡ m1.cpu.run = due_counts m1.cpu.run (in_run m1 []) t.waiting in
    let up_to : u.present.cpu.run ≤ stop = (let w = rests.within in omega arith) in
    record {
      place = record {
        here = comes ∙ (sym rests.same ∙ ap (reached t.start t.deliveries) (sym its_run));
        wait =
            ap (later_deliveries m1.cpu.run) place.wait
            ∙ (later_again run m1.cpu.run t.deliveries (grows a t.present small_stop)
            ∙ ap (λ (k : ℕ). later_deliveries k t.deliveries) (sym same_run));
      };
      within = let w = ahead.within in omega arith;
      moves = let w = moves a t.present running ahead.some small_stop in omega arith;
      next = λ j past. let w = ahead.within in let x = next_multiple t.every run j some_every past in omega arith;
    }

-- ---- the machine that is kept

-- a timeline with another present machine
abbrev pub moved : Timeline → Machine → List Delivery → Timeline
moved t p w = record t { present = p; waiting = w }

abbrev pub with_kept : Timeline → Machine → List Delivery → Timeline
with_kept t p w = record t { present = p; waiting = w; slots = slice_set t.slots (slot_of t.every p.cpu.run) (Some p) }

place_below : (e run : ℕ) → slot_of e run < 16
place_below e run = omega arith

kept_here : (t : Timeline) (p : Machine) (j : ℕ) → 0 < t.every → length t.slots ≡ 16 → p ≡ reached t.start t.deliveries p.cpu.run → p.cpu.run ≡ j * t.every
    → slot (slice_set t.slots (slot_of t.every p.cpu.run) (Some p)) (j % 16) ≡ Some (reached t.start t.deliveries (j * t.every))
kept_here t p j some size here is =
    let low : slot_of t.every p.cpu.run < length t.slots = omega (arith, size, place_below t.every p.cpu.run) in
    let same : slot_of t.every p.cpu.run ≡ j % 16 = ap (λ (k : ℕ). k % 16) (quotient_of_multiple t.every p.cpu.run j some is) in
    ap (λ (k : ℕ). slot (slice_set t.slots (slot_of t.every p.cpu.run) (Some p)) k) (sym same)
    ∙ (get_or-set_same t.slots (slot_of t.every p.cpu.run) (Some p) None low
    ∙ ap Some (here ∙ ap (reached t.start t.deliveries) is))

keeps_more : (floor : ℕ) (old t : Timeline) (p : Machine) (w : List Delivery) (b : Bool) → is_checkpoint t.every floor p.cpu.run ≡ b → 0 < t.every → length t.slots ≡ 16 → p ≡ reached t.start t.deliveries p.cpu.run
    → t.present.cpu.run < p.cpu.run → ((j : ℕ) → t.present.cpu.run < j * t.every → p.cpu.run ≤ j * t.every) → Keeps floor old t
    → Keeps floor old (cond b (with_kept t p w) (moved t p w))
keeps_more floor old t p w true is some size here moves next k =
    let e = t.every in
    let none = kept_at_multiple e floor p.cpu.run is in
    record {
      kept = λ j past most near. ⊎_elim
          (λ (ahead : t.present.cpu.run < j * e). kept_here t p j some size here (let n = next j ahead in omega arith))
          (λ (behind : j * e ≤ t.present.cpu.run).
          get_or-set_other t.slots (slot_of e p.cpu.run) (j % 16) (Some p) None (other_place e p.cpu.run j some none (omega arith) near)
          ∙ k.kept j past behind (omega arith))
          (cases_lt t.present.cpu.run (j * e));
      stays = λ i absent.
          let whole = at_multiple e p.cpu.run some none in
          let above = kept_above e floor p.cpu.run is in
          get_or-set_other t.slots (slot_of e p.cpu.run) i (Some p) None (λ (at : i ≡ slot_of e p.cpu.run). absent (p.cpu.run / e) (omega arith) (omega arith) (sym at))
          ∙ k.stays i (λ j past most. absent j past (omega arith));
    }
keeps_more floor old t p w false is some size here moves next k =
    let e = t.every in
    record {
      kept = λ j past most near. ⊎_elim
          (λ (ahead : t.present.cpu.run < j * e).
          let at : p.cpu.run ≡ j * e = (let n = next j ahead in omega arith) in
          let yes = is_kept e floor p.cpu.run (omega arith) (rest_of_multiple e p.cpu.run j some at) in
          absurd (let f : true ≡ false = sym yes ∙ is in cc))
          (λ (behind : j * e ≤ t.present.cpu.run). k.kept j past behind (omega arith))
          (cases_lt t.present.cpu.run (j * e));
      stays = λ i absent. k.stays i (λ j past most. absent j past (omega arith));
    }

same_kept : (p m : Machine) → Some p ≡ Some m → p ≡ m
same_kept p m h = cc

sound_more : (t : Timeline) (p : Machine) (w : List Delivery) (b : Bool) → length t.slots ≡ 16 → p ≡ reached t.start t.deliveries p.cpu.run → AreSound t → AreSound (cond b (with_kept t p w) (moved t p w))
sound_more t p w true size here sound = λ i m at.
    let s = slot_of t.every p.cpu.run in
    let low : s < length t.slots = omega (arith, size, place_below t.every p.cpu.run) in
    let other = λ (no : i ≢ s). sound i m (sym (get_or-set_other t.slots s i (Some p) None no) ∙ at) in
    ⊎_elim
    (λ (less : i < s). other (λ (e : i ≡ s). omega arith))
    (λ (most : s ≤ i). ⊎_elim
    (λ (more : s < i). other (λ (e : i ≡ s). omega arith))
    (λ (least : i ≤ s).
    let is : i ≡ s = omega arith in
    let same : p ≡ m = same_kept p m (sym (get_or-set_same t.slots s (Some p) None low) ∙ (ap (λ (k : ℕ). slot (slice_set t.slots s (Some p)) k) (sym is) ∙ at)) in
    subst (λ (q : Machine). q ≡ reached t.start t.deliveries q.cpu.run) same here)
    (cases_lt s i))
    (cases_lt i s)
sound_more t p w false size here sound = sound

size_more : (t : Timeline) (p : Machine) (w : List Delivery) (b : Bool) → length t.slots ≡ 16 → length (cond b (with_kept t p w) (moved t p w)).slots ≡ 16
size_more t p w true size = length-set t.slots (slot_of t.every p.cpu.run) (Some p) ∙ size
size_more t p w false size = size

-- all else is the same
pub record Rest (t v : Timeline) (p : Machine) (w : List Delivery) : Type 0 where
  pub start_is : v.start ≡ t.start
  pub every_is : v.every ≡ t.every
  pub deliveries_are : v.deliveries ≡ t.deliveries
  pub present_is : v.present ≡ p
  pub waiting_are : v.waiting ≡ w

rest_of : (t : Timeline) (p : Machine) (w : List Delivery) (b : Bool) → Rest t (cond b (with_kept t p w) (moved t p w)) p w
rest_of t p w true = record { start_is = refl; every_is = refl; deliveries_are = refl; present_is = refl; waiting_are = refl }
rest_of t p w false = record { start_is = refl; every_is = refl; deliveries_are = refl; present_is = refl; waiting_are = refl }

here_more : (t : Timeline) (p : Machine) (w : List Delivery) (b : Bool) → IsHere (moved t p w) → IsHere (cond b (with_kept t p w) (moved t p w))
here_more t p w true h = record { here = h.here; wait = h.wait }
here_more t p w false h = h

-- ---- a run to a run count

pub going_on : (floor n : ℕ) (old t : Timeline) → IsOnTheWay floor n old t → t.present.halt ≡ None → t.present.cpu.run < n → n < 2 ^ 64
    → IsOnTheWay floor n old (after_step floor n t) × (t.present.cpu.run < (after_step floor n t).present.cpu.run)
going_on floor n old t way running low small =
    let u = settled (after_stretch n t) in
    let p = u.present in
    let w = u.waiting in
    let a = advanced n t way.at_start way.some way.place running low small in
    let b = is_checkpoint t.every floor p.cpu.run in
    let r = rest_of t p w b in
    let its_run = ap (λ (m : Machine). m.cpu.run) r.present_is in (
      record {
        at_start = ap (λ (m : Machine). m.cpu.run) r.start_is ∙ way.at_start;
        some = subst (λ (k : ℕ). 0 < k) (sym r.every_is) way.some;
        same = record {
          start_is = r.start_is ∙ way.same.start_is;
          every_is = r.every_is ∙ way.same.every_is;
          deliveries_are = r.deliveries_are ∙ way.same.deliveries_are;
        };
        place = here_more t p w b a.place;
        within = subst (λ (k : ℕ). k ≤ n) (sym its_run) a.within;
        places = size_more t p w b way.places;
        keeps = keeps_more floor old t p w b refl way.some way.places a.place.here a.moves a.next way.keeps;
        sound = sound_more t p w b way.places a.place.here way.sound;
      },
      subst (λ (k : ℕ). t.present.cpu.run < k) (sym its_run) a.moves,
    )

-- it is over at the run count, or where the machine has halted
over_by : (start : Machine) (ds : List Delivery) (m : Machine) (n : ℕ) (halt : Option ℕ) → m ≡ reached start ds m.cpu.run → m.cpu.run ≤ n → m.halt ≡ halt → (halt ≡ None → n ≤ m.cpu.run) → m ≡ reached start ds n
over_by start ds m n (Some value) here within h over =
    let run = m.cpu.run in
    let ran = run_of_cycles run 0 (in_run start []) ds in
    let halted : ran.machine.halt ≡ Some value = sym (ap (λ (x : Machine). x.halt) here) ∙ h in
    here
    ∙ sym (ap (λ (x : RunState). x.machine) (split run (n - run) n run 0 (in_run start []) ds (omega arith) (omega arith))
    ∙ ap (λ (x : RunState). x.machine) (halted_run (n - run) run ran (later_deliveries run ds) value halted))
over_by start ds m n None here within h over =
    let last = over refl in
    let all : m.cpu.run ≡ n = omega arith in
    here ∙ ap (reached start ds) all

pub arrived : (floor n : ℕ) (old t : Timeline) → IsOnTheWay floor n old t → (t.present.halt ≡ None → n ≤ t.present.cpu.run) → HasArrived floor n old t
arrived floor n old t way over = record {
  way = way;
  present_is = over_by t.start t.deliveries t.present n t.present.halt way.place.here way.within refl over;
}

-- A run of which the last machines alone were kept, and a second one where it has halted.
use Rattle.std.proofs.Common.{◌≡◌, ℕ, ◌+◌, ◌*◌, ◌<◌, ◌≤◌, inr, List, length, sym, ap, arith, ◌∙◌, subst}
use Rattle.s2_machine.specs.declared.deliveries.Delivery.{Delivery}
use Rattle.s2_machine.specs.Machine.{Machine}
use Rattle.s2_trace.specs.declared.numbers.TheConstants.{CHECKPOINTS, MOST_DELIVERIES}
use Rattle.s2_trace.specs.Timeline.{Timeline, keeps_above, reached}
use Rattle.s2_trace.specs.Travel.{NeverFall, IsTimeline, IsSameProgram, Keeps, IsOnTheWay, HasArrived}

-- a timeline is one after a run
pub still_timeline : {floor n : ℕ} {old new : Timeline} → IsTimeline old → HasArrived floor n old new → IsTimeline new
still_timeline {floor} {n} {old} {new} k h =
    let way = h.way in
    record {
      at_start = way.at_start;
      some = way.some;
      order = subst (λ (ds : List Delivery). NeverFall 0 ds) (sym way.same.deliveries_are) k.order;
      few = subst (λ (ds : List Delivery). length ds ≤ MOST_DELIVERIES) (sym way.same.deliveries_are) k.few;
      places = way.places;
      ready = inr way.place;
      sound = way.sound;
    }

-- one of the last 16 multiples is above where machines are kept
last_above : (every floor run j : ℕ) → floor < j * every → run < (j + CHECKPOINTS) * every → keeps_above every floor run < j * every
last_above every floor run j past near =
    let parts : (j + CHECKPOINTS) * every ≡ j * every + CHECKPOINTS * every = grind arith in
    omega (arith, parts)

keeps_below : {from floor : ℕ} {old new : Timeline} → floor ≤ from → from ≤ keeps_above new.every floor new.present.cpu.run → Keeps from old new → Keeps floor old new
keeps_below {from} {floor} {old} {new} low high k = record {
  kept = λ j past most near. k.kept j (let above = last_above new.every floor new.present.cpu.run j past near in omega arith) most near;
  stays = λ i none. k.stays i (λ j past most. none j (omega arith) most);
}

on_the_way_below : {from floor n : ℕ} {old new : Timeline} → Keeps floor old new → IsOnTheWay from n old new → IsOnTheWay floor n old new
on_the_way_below keeps way = record {
  at_start = way.at_start;
  some = way.some;
  same = way.same;
  place = way.place;
  within = way.within;
  places = way.places;
  keeps = keeps;
  sound = way.sound;
}

-- it has come so far that the last ones were kept
pub arrived_once : (from floor n last : ℕ) (old new : Timeline) → HasArrived from n old new → from ≡ keeps_above old.every floor n → last ≡ keeps_above new.every floor new.present.cpu.run → from ≤ last
    → HasArrived floor n old new
arrived_once from floor n last old new h is last_is enough =
    let high : from ≤ keeps_above new.every floor new.present.cpu.run = subst (λ (k : ℕ). from ≤ k) last_is enough in
    let low : floor ≤ from = subst (λ (k : ℕ). floor ≤ k) (sym is) (omega arith) in
    record { way = on_the_way_below (keeps_below low high h.way.keeps) h.way; present_is = h.present_is }

-- it has not, and has run again
same_end : (n : ℕ) (mid new : Timeline) → IsSameProgram mid new → mid.present ≡ reached mid.start mid.deliveries n → new.present ≡ reached new.start new.deliveries n → new.present ≡ mid.present
same_end n mid new same first second =
    second
    ∙ (ap (λ (m : Machine). reached m new.deliveries n) same.start_is
    ∙ (ap (λ (ds : List Delivery). reached mid.start ds n) same.deliveries_are ∙ sym first))

pub arrived_again : (from floor n last : ℕ) (old mid new : Timeline) → HasArrived from n old mid → HasArrived last n mid new → from ≡ keeps_above old.every floor n → last ≡ keeps_above mid.every floor mid.present.cpu.run
    → HasArrived floor n old new
arrived_again from floor n last old mid new h g is last_is =
    let same = g.way.same in
    let present : new.present ≡ mid.present = same_end n mid new same h.present_is g.present_is in
    let end : new.present.cpu.run ≡ mid.present.cpu.run = ap (λ (m : Machine). m.cpu.run) present in
    let e : new.every ≡ mid.every = same.every_is in
    let high : last ≤ keeps_above new.every floor new.present.cpu.run =
    subst (λ (k : ℕ). last ≤ keeps_above k floor new.present.cpu.run) (sym e) (subst (λ (k : ℕ). last ≤ keeps_above mid.every floor k) (sym end) (omega arith)) in
    let low : floor ≤ last = omega arith in
    let from_low : floor ≤ from = omega arith in
    let keeps = keeps_below low high g.way.keeps in
    record {
      way = record {
        at_start = g.way.at_start;
        some = g.way.some;
        same = record {
          start_is = same.start_is ∙ h.way.same.start_is;
          every_is = same.every_is ∙ h.way.same.every_is;
          deliveries_are = same.deliveries_are ∙ h.way.same.deliveries_are;
        };
        place = g.way.place;
        within = g.way.within;
        places = g.way.places;
        keeps = record {
          kept = keeps.kept;
          stays = λ i none.
              keeps.stays i none
              ∙ h.way.keeps.stays i (λ j past most.
              let past_here : floor < j * mid.every = omega arith in
              none j (subst (λ (k : ℕ). floor < j * k) (sym e) past_here) (subst (λ (k : ℕ). j * k ≤ new.present.cpu.run) (sym e) (subst (λ (k : ℕ). j * mid.every ≤ k) (sym end) most)));
        };
        sound = g.way.sound;
      };
      present_is = g.present_is;
    }

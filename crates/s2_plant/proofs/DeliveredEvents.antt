-- Events that are delivered one after another.
use Rattle.std.proofs.Common.{◌≡◌, ℕ, zero, suc, ◌+◌, List, [], ◌∷◌, ◌++◌, ap, refl, sym, subst, arith, ◌∙◌, take, drop, append_assoc, append-nil, length, ◌≤◌}
use Rattle.std.specs.Prelude.{slice_get, IfSome, true}
use Rattle.s2_ports.specs.declared.events.Event.{Event}
use Rattle.s2_ports.specs.declared.events.Event.TheVariants.{Tick, Key, Private}
use Rattle.s2_ports.specs.Events.{IsEventInRange, comes_from_outside}
use Rattle.s2_triplex.specs.WaitingEvents.{AreFromOutside}
use Rattle.s2_device.specs.DeviceState.{Device, device_after}
use Rattle.s2_journal.specs.declared.note.Note.{Note}
use Rattle.s2_journal.specs.declared.note.Note.TheVariants.{Delivered}
use Rattle.s2_triplex.specs.VotedAccess.{device_after_events, deliveries_at}
use Rattle.s2_triplex.specs.StepTurns.{delivery_notes}
use Rattle.s2_plant.specs.StepParts.{event_list}

pub taken_first : (xs : List Event) → take 1 xs ≡ event_list (slice_get xs 0)
taken_first [] = refl
taken_first (x ∷ xs) = refl

-- events that wait come from outside, so that their numbers are in range
pub first_in_range : (xs : List Event) → AreFromOutside xs → IfSome (slice_get xs 0) IsEventInRange
first_in_range [] h = tt
first_in_range (Tick ∷ xs) h = tt
first_in_range (Key byte ∷ xs) h = tt
first_in_range (Private a b c ∷ xs) h = absurd (let x = h.0 in cc)

pub rest_outside : (xs : List Event) → AreFromOutside xs → AreFromOutside (drop 1 xs)
rest_outside [] h = tt
rest_outside (x ∷ xs) h = h.1

pub one_more_outside : (xs : List Event) (event : Event) → AreFromOutside xs → comes_from_outside event ≡ true → AreFromOutside (xs ++ event ∷ [])
one_more_outside [] event h is = (is, tt)
one_more_outside (x ∷ xs) event h is = (h.0, one_more_outside xs event h.1 is)

pub grown_outside : (xs ys : List Event) (event : Event) → AreFromOutside xs → comes_from_outside event ≡ true → ys ≡ xs ++ event ∷ [] → AreFromOutside ys
grown_outside xs ys event h is grown = subst AreFromOutside (sym grown) (one_more_outside xs event h is)

pub ruleset taken = (taken_first, first_in_range, rest_outside)

next : (i : ℕ) → i + 1 ≡ suc i
next i = omega arith

take_suc : (xs : List Event) (i : ℕ) → take (suc i) xs ≡ take i xs ++ take 1 (drop i xs)
take_suc [] zero = refl
take_suc [] (suc i) = refl
take_suc (x ∷ xs) zero = refl
take_suc (x ∷ xs) (suc i) = ap (λ (ys : List Event). x ∷ ys) (take_suc xs i)

take_more : (xs : List Event) (i : ℕ) → take (i + 1) xs ≡ take i xs ++ take 1 (drop i xs)
take_more xs i = ap (λ (n : ℕ). take n xs) (next i) ∙ take_suc xs i

drop_suc : (xs : List Event) (i : ℕ) → drop 1 (drop i xs) ≡ drop (suc i) xs
drop_suc [] zero = refl
drop_suc [] (suc i) = refl
drop_suc (x ∷ xs) zero = refl
drop_suc (x ∷ xs) (suc i) = drop_suc xs i

drop_more : (xs : List Event) (i : ℕ) → drop 1 (drop i xs) ≡ drop (i + 1) xs
drop_more xs i = drop_suc xs i ∙ ap (λ (n : ℕ). drop n xs) (sym (next i))

events_join : (d : Device) (xs ys : List Event) → device_after_events (device_after_events d xs) ys ≡ device_after_events d (xs ++ ys)
events_join d [] ys = refl
events_join d (x ∷ xs) ys = events_join (device_after d x) xs ys

notes_join : (run : ℕ) (xs ys : List Event) → delivery_notes (deliveries_at run (xs ++ ys)) ≡ delivery_notes (deliveries_at run xs) ++ delivery_notes (deliveries_at run ys)
notes_join run [] ys = refl
notes_join run (x ∷ xs) ys = ap (λ (ns : List Note). Delivered run x ∷ ns) (notes_join run xs ys)

-- so many events have acted
pub record Delivering (device : Device) (inbox : List Event) (notes : List Note) (run i : ℕ) (device2 : Device) (inbox2 : List Event) (notes2 : List Note) : Type 0 where
  pub device_is : device2 ≡ device_after_events device (take i inbox)
  pub inbox_is : inbox2 ≡ drop i inbox
  pub notes_is : notes2 ≡ notes ++ delivery_notes (deliveries_at run (take i inbox))
  pub most : length notes2 ≤ 2 + i

pub delivering_more : (device : Device) (inbox : List Event) (notes : List Note) (run i : ℕ) (device2 device3 : Device) (inbox2 inbox3 : List Event) (notes2 notes3 : List Note) →
    Delivering device inbox notes run i device2 inbox2 notes2 → device3 ≡ device_after_events device2 (take 1 inbox2) → inbox3 ≡ drop 1 inbox2 → notes3 ≡ notes2 ++ delivery_notes (deliveries_at run (take 1 inbox2)) →
    length notes3 ≤ length notes2 + 1 → Delivering device inbox notes run (i + 1) device3 inbox3 notes3
delivering_more device inbox notes run i device2 device3 inbox2 inbox3 notes2 notes3 w d x n most =
    record {
      device_is = d ∙ (ap (λ (v : Device). device_after_events v (take 1 inbox2)) w.device_is ∙ (ap (λ (es : List Event). device_after_events (device_after_events device (take i inbox)) (take 1 es)) w.inbox_is ∙ (events_join device (take i inbox) (take 1 (drop i inbox)) ∙ ap (device_after_events device) (sym (take_more inbox i)))));
      inbox_is = x ∙ (ap (drop 1) w.inbox_is ∙ drop_more inbox i);
      notes_is = n ∙ (ap (λ (ns : List Note). ns ++ delivery_notes (deliveries_at run (take 1 inbox2))) w.notes_is ∙ (ap (λ (es : List Event). (notes ++ delivery_notes (deliveries_at run (take i inbox))) ++ delivery_notes (deliveries_at run (take 1 es))) w.inbox_is
          ∙ (append_assoc notes (delivery_notes (deliveries_at run (take i inbox))) (delivery_notes (deliveries_at run (take 1 (drop i inbox))))
          ∙ (ap (λ (ns : List Note). notes ++ ns) (sym (notes_join run (take i inbox) (take 1 (drop i inbox)))) ∙ ap (λ (es : List Event). notes ++ delivery_notes (deliveries_at run es)) (sym (take_more inbox i))))));
      most = let m = w.most in omega arith;
    }

pub delivering_none : (device : Device) (inbox : List Event) (notes : List Note) (run : ℕ) → length notes ≤ 2 → Delivering device inbox notes run 0 device inbox notes
delivering_none device inbox notes run h = record { device_is = refl; inbox_is = refl; notes_is = sym (append-nil notes); most = h }

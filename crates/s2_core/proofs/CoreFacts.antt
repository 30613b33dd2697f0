-- The R2000 is a core, and laws of every core.
use Rattle.std.proofs.Common.{◌≡◌, ℕ, zero, suc, ◌+◌, ◌%◌, ◌/◌, ◌^◌, ◌<◌, ◌≤◌, Bool, true, false, List, [], ◌∷◌, length, refl, sym, ap, subst, ◌∙◌, ⊎_elim, arith}
use Rattle.std.specs.Prelude.{slice_set, slice_index_or}
use Rattle.std.proofs.lemmas.List.{length-set, get_or-set_same, get_or-set_other, set_past}
use Rattle.std.proofs.lemmas.Bool.{cases_lt, true≢false}
use Rattle.std.proofs.Math.Nat.{suc-add, zero-add}
use Rattle.s2_base.specs.declared.map.TheConstants.{LOCAL_WORDS}
use Rattle.s2_base.specs.declared.places.Place.{Place}
use Rattle.s2_base.specs.declared.places.Place.TheVariants.{Local as LocalPlace, Boot, Global, Device as DevicePlace, Nowhere}
use Rattle.s2_ports.specs.declared.requests.Request.{Request}
use Rattle.s2_store.specs.declared.store.TheConstants.{PAGE_WORDS}
use Rattle.s2_cpu.specs.Processor.{Processor}
use Rattle.s2_core.proofs.PrivateAccess.{access_keeps_slots}
use Rattle.s2_machine.specs.Machine.{Machine}
use Rattle.s2_machine.specs.WriteBack.{after_step}
use Rattle.s2_machine.specs.InstructionRows.{step_of}
use Rattle.s2_machine.specs.LocalWork.{ask_at, ask_of_step, load_request, store_request, local_stored_at, marked_at, local_after, marks_after, read_by}
use Rattle.s2_machine.specs.Cores.{Core, IsCore, is_sync, mark_at, word_at, local_pages, core_cycle_by}
use Rattle.s2_machine.specs.MachineRun.{core_cycles, core_after_cycle}
use Rattle.s2_machine.specs.CoreLaws.{R2000IsCore, EqualCycles, LocalCyclesStayInside, RunsAdd, EachCycleCounts}
use Rattle.s2_machine.specs.declared.ask.Ask.{Ask}
use Rattle.s2_machine.specs.declared.ask.Ask.TheVariants.{Local, Outside}
use Rattle.s2_machine.specs.declared.step.Step.{Step}
use Rattle.s2_machine.specs.declared.step.Step.TheVariants.{Raise, Proceed, Set, SetHiLo, Jump, Delay, Load, Store, SetControl, ReadEntry, WriteEntry, ProbeEntry, Restore}

-- every step counts and leaves the lines
written_run : (p : Processor) (s : Step) (word : ℕ) → (after_step p s word).run ≡ (p.run + 1) % 2 ^ 64
written_run p (Raise e) word = refl
written_run p Proceed word = refl
written_run p (Set reg value) word = refl
written_run p (SetHiLo hi lo) word = refl
written_run p (Jump target link) word = refl
written_run p (Delay reg value) word = refl
written_run p (Load op reg byte address place) word = refl
written_run p (Store stored mask address place) word = refl
written_run p (SetControl reg value) word = refl
written_run p ReadEntry word = refl
written_run p (WriteEntry index) word = refl
written_run p ProbeEntry word = refl
written_run p Restore word = refl

written_lines : (p : Processor) (s : Step) (word : ℕ) → (after_step p s word).lines ≡ p.lines
written_lines p (Raise e) word = refl
written_lines p Proceed word = refl
written_lines p (Set reg value) word = refl
written_lines p (SetHiLo hi lo) word = refl
written_lines p (Jump target link) word = refl
written_lines p (Delay reg value) word = refl
written_lines p (Load op reg byte address place) word = refl
written_lines p (Store stored mask address place) word = refl
written_lines p (SetControl reg value) word = refl
written_lines p ReadEntry word = refl
written_lines p (WriteEntry index) word = refl
written_lines p ProbeEntry word = refl
written_lines p Restore word = refl

-- a request of a load or store is no synchronisation
same_request : (q r : Request) → Outside q ≡ Outside r → q ≡ r
same_request q r h = cc

kind_at : (place : Place) (q r : Request) → is_sync q.kind ≡ false → ask_at place q ≡ Outside r → is_sync r.kind ≡ false
kind_at (Global i) q r h e = subst (λ (x : Request). is_sync x.kind ≡ false) (same_request q r e) h
kind_at (DevicePlace i) q r h e = subst (λ (x : Request). is_sync x.kind ≡ false) (same_request q r e) h
kind_at (LocalPlace i) q r h e = absurd cc
kind_at (Boot i) q r h e = absurd cc
kind_at Nowhere q r h e = absurd cc

kind_by : (p : Processor) (s : Step) (r : Request) → ask_of_step p s ≡ Outside r → is_sync r.kind ≡ false
kind_by p (Load op reg byte address place) r e = kind_at place (load_request p address) r refl e
kind_by p (Store word mask address place) r e = kind_at place (store_request p address word mask) r refl e
kind_by p (Raise exc) r e = absurd cc
kind_by p Proceed r e = absurd cc
kind_by p (Set reg value) r e = absurd cc
kind_by p (SetHiLo hi lo) r e = absurd cc
kind_by p (Jump target link) r e = absurd cc
kind_by p (Delay reg value) r e = absurd cc
kind_by p (SetControl reg value) r e = absurd cc
kind_by p ReadEntry r e = absurd cc
kind_by p (WriteEntry index) r e = absurd cc
kind_by p ProbeEntry r e = absurd cc
kind_by p Restore r e = absurd cc

-- and its run count
run_at : (place : Place) (q r : Request) → ask_at place q ≡ Outside r → r.run ≡ q.run
run_at (Global i) q r e = ap (λ (x : Request). x.run) (sym (same_request q r e))
run_at (DevicePlace k) q r e = ap (λ (x : Request). x.run) (sym (same_request q r e))
run_at (LocalPlace i) q r e = absurd cc
run_at (Boot i) q r e = absurd cc
run_at Nowhere q r e = absurd cc

run_by : (p : Processor) (s : Step) (r : Request) → ask_of_step p s ≡ Outside r → r.run ≡ p.run
run_by p (Load op reg byte address place) r e = run_at place (load_request p address) r e
run_by p (Store word mask address place) r e = run_at place (store_request p address word mask) r e
run_by p (Raise exc) r e = absurd cc
run_by p Proceed r e = absurd cc
run_by p (Set reg value) r e = absurd cc
run_by p (SetHiLo hi lo) r e = absurd cc
run_by p (Jump target link) r e = absurd cc
run_by p (Delay reg value) r e = absurd cc
run_by p (SetControl reg value) r e = absurd cc
run_by p ReadEntry r e = absurd cc
run_by p (WriteEntry index) r e = absurd cc
run_by p ProbeEntry r e = absurd cc
run_by p Restore r e = absurd cc

-- the lists keep their lengths
stored_length : (local : List ℕ) (place : Place) (word mask : ℕ) → length (local_stored_at local place word mask) ≡ length local
stored_length local (LocalPlace i) word mask = length-set local i _
stored_length local (Boot i) word mask = refl
stored_length local (Global i) word mask = refl
stored_length local (DevicePlace k) word mask = refl
stored_length local Nowhere word mask = refl

marked_length : (marks : List Bool) (place : Place) → length (marked_at marks place) ≡ length marks
marked_length marks (LocalPlace i) = length-set marks (i / PAGE_WORDS) true
marked_length marks (Boot i) = refl
marked_length marks (Global i) = refl
marked_length marks (DevicePlace k) = refl
marked_length marks Nowhere = refl

-- no mark is cleared
still_unmarked : (marks : List Bool) (j page : ℕ) → slice_index_or (slice_set marks j true) page false ≡ false → slice_index_or marks page false ≡ false
still_unmarked [] j page h = h
still_unmarked (m ∷ marks) zero zero h = absurd cc
still_unmarked (m ∷ marks) zero (suc page) h = h
still_unmarked (m ∷ marks) (suc j) zero h = h
still_unmarked (m ∷ marks) (suc j) (suc page) h = still_unmarked marks j page h

unmarked_at : (marks : List Bool) (place : Place) (page : ℕ) → mark_at (marked_at marks place) page ≡ false → mark_at marks page ≡ false
unmarked_at marks (LocalPlace i) page h = still_unmarked marks (i / PAGE_WORDS) page h
unmarked_at marks (Boot i) page h = h
unmarked_at marks (Global i) page h = h
unmarked_at marks (DevicePlace k) page h = h
unmarked_at marks Nowhere page h = h

-- a word of a page without a mark stays
other_word : (local : List ℕ) (marks : List Bool) (k i v : ℕ) → length local ≡ 278528 → length marks ≡ 272
    → slice_index_or (slice_set marks (k / 1024) true) (i / 1024) false ≡ false → slice_index_or (slice_set local k v) i 0 ≡ slice_index_or local i 0
other_word local marks k i v size pages h = ⊎_elim inside outside (cases_lt k (length local))
  where
    inside : k < length local → slice_index_or (slice_set local k v) i 0 ≡ slice_index_or local i 0
    inside low =
        let page_low : k / 1024 < length marks = omega arith in
        get_or-set_other local k i v 0 (λ e. true≢false (sym (get_or-set_same marks (k / 1024) true false page_low) ∙ subst (λ n. slice_index_or (slice_set marks (k / 1024) true) (n / 1024) false ≡ false) e h))

    outside : length local ≤ k → slice_index_or (slice_set local k v) i 0 ≡ slice_index_or local i 0
    outside high = ap (λ (l : List ℕ). slice_index_or l i 0) (set_past local k v high)

stays_at : (local : List ℕ) (marks : List Bool) (place : Place) (word mask i : ℕ) → length local ≡ LOCAL_WORDS → length marks ≡ local_pages
    → mark_at (marked_at marks place) (i / PAGE_WORDS) ≡ false → word_at (local_stored_at local place word mask) i ≡ word_at local i
stays_at local marks (LocalPlace k) word mask i size pages h = other_word local marks k i _ size pages h
stays_at local marks (Boot k) word mask i size pages h = refl
stays_at local marks (Global k) word mask i size pages h = refl
stays_at local marks (DevicePlace k) word mask i size pages h = refl
stays_at local marks Nowhere word mask i size pages h = refl

-- the same of a step
length_after : (local : List ℕ) (s : Step) → length (local_after local s) ≡ length local
length_after local (Store word mask address place) = stored_length local place word mask
length_after local s = refl

marks_length_after : (marks : List Bool) (s : Step) → length (marks_after marks s) ≡ length marks
marks_length_after marks (Store word mask address place) = marked_length marks place
marks_length_after marks s = refl

unmarked_after : (marks : List Bool) (s : Step) (page : ℕ) → mark_at (marks_after marks s) page ≡ false → mark_at marks page ≡ false
unmarked_after marks (Store word mask address place) page h = unmarked_at marks place page h
unmarked_after marks s page h = h

stays_after : (local : List ℕ) (marks : List Bool) (s : Step) (i : ℕ) → length local ≡ LOCAL_WORDS → length marks ≡ local_pages
    → mark_at (marks_after marks s) (i / PAGE_WORDS) ≡ false → word_at (local_after local s) i ≡ word_at local i
stays_after local marks (Store word mask address place) i size pages h = stays_at local marks place word mask i size pages h
stays_after local marks s i size pages h = refl

pub r2000_core : R2000IsCore
r2000_core = record {
  run_after_turn = λ p local h. written_run p (step_of p local) (read_by local (step_of p local));
  lines_after_turn = λ p local h. written_lines p (step_of p local) (read_by local (step_of p local));
  run_after_finish = λ p local r word lines h. written_run p (step_of p local) word;
  lines_after_finish = λ p local r word lines h. refl;
  ask_kind = λ p local r h. kind_by p (step_of p local) r h;
  ask_run = λ p local r h. run_by p (step_of p local) r h;
  slots = access_keeps_slots;
  length_after_turn = λ p local h. length_after local (step_of p local);
  marks_length_after_turn = λ p local marks h. marks_length_after marks (step_of p local);
  unmarked = λ p local marks page h size pages no_mark. unmarked_after marks (step_of p local) page no_mark;
  stays = λ p local marks i h size pages no_mark. stays_after local marks (step_of p local) i size pages no_mark;
}

-- laws of every core
pub equal_cycles : EqualCycles
equal_cycles k p q local other ep el = record {
  ask_of = cc;
  after_turn = cc;
  local_after_turn = cc;
  after_finish = λ word lines. cc;
}

pub local_cycles_stay_inside : LocalCyclesStayInside
local_cycles_stay_inside k m h = record {
  global = ap (λ (a : Ask). (core_cycle_by k m a).next.global) h;
  device = ap (λ (a : Ask). (core_cycle_by k m a).next.device) h;
  halt = ap (λ (a : Ask). (core_cycle_by k m a).next.halt) h;
  out = ap (λ (a : Ask). (core_cycle_by k m a).out) h;
}

pub runs_add : RunsAdd
runs_add k zero m ran = ap (λ c. core_cycles k c ran) (sym (zero-add m))
runs_add k (suc n) m ran = runs_add k n m (core_after_cycle k ran) ∙ ap (λ c. core_cycles k c ran) (sym (suc-add n m))

counts_by : (k : Core) (m : Machine) → IsCore k → (a : Ask) → k.ask_of m.cpu m.local ≡ a → (core_cycle_by k m a).next.cpu.run ≡ (m.cpu.run + 1) % 2 ^ 64
counts_by k m c Local e = c.run_after_turn m.cpu m.local e
counts_by k m c (Outside r) e = c.run_after_finish m.cpu m.local r _ _ e

pub each_cycle_counts : EachCycleCounts
each_cycle_counts k m c = counts_by k m c (k.ask_of m.cpu m.local) refl

-- A processor core, as functions of the processor and its local list alone, and the cycle of the machine that a
-- core makes with flat memories.
use Rattle.std.specs.Prelude.{ℕ, ◌≡◌, ◌+◌, ◌/◌, ◌%◌, ◌^◌, Bool, true, false, List, length, slice_index_or, Some, None}
use Rattle.std.specs.declared.option.Option.{Option}
use Rattle.s2_base.specs.declared.map.TheConstants.{LOCAL_WORDS}
use Rattle.s2_ports.specs.declared.requests.Request.{Request}
use Rattle.s2_ports.specs.declared.requests.Kind.{Kind}
use Rattle.s2_ports.specs.declared.requests.Kind.TheVariants.{Load, Store, Sync}
use Rattle.s2_store.specs.declared.store.TheConstants.{PAGE_WORDS}
use Rattle.s2_device.specs.DeviceState.{Device, lines_of}
use Rattle.s2_cpu.specs.Processor.{Processor}
use Rattle.s2_machine.specs.OutsideAccess.{AccessResult}
use Rattle.s2_machine.specs.PrivateArea.{KeepsSlots}
use Rattle.s2_machine.specs.Machine.{Machine}
use Rattle.s2_machine.specs.declared.ask.Ask.{Ask}
use Rattle.s2_machine.specs.declared.ask.Ask.TheVariants.{Local, Outside}

-- what the next cycle asks of the outside; the processor, the local list and the marks of its pages after a
-- cycle that asks nothing; the processor after one that was answered, with the word read and the lines; and
-- what an access does
pub record Core : Type 0 where
  pub ask_of : Processor → List ℕ → Ask
  pub after_turn : Processor → List ℕ → Processor
  pub local_after_turn : Processor → List ℕ → List ℕ
  pub marks_after_turn : Processor → List ℕ → List Bool → List Bool
  pub after_finish : Processor → List ℕ → ℕ → ℕ → Processor
  pub access : List ℕ → Device → Request → AccessResult

abbrev pub is_sync : Kind → Bool
is_sync Load = false
is_sync Store = false
is_sync Sync = true

abbrev pub mark_at : List Bool → ℕ → Bool
mark_at marks page = slice_index_or marks page false

abbrev pub word_at : List ℕ → ℕ → ℕ
word_at local i = slice_index_or local i 0

-- how many pages the local list has
abbrev pub local_pages : ℕ
local_pages = LOCAL_WORDS / PAGE_WORDS

-- what is used of a core: each cycle counts; the lines stay, or are those of the answer; a cycle asks for no
-- synchronisation, and tells its run count; the lists keep their lengths; no mark is cleared, and a word of a page
-- without a mark stays; and an access keeps the slots of the private-write area
pub record IsCore (k : Core) : Type 0 where
  pub run_after_turn : (p : Processor) (local : List ℕ) → k.ask_of p local ≡ Local → (k.after_turn p local).run ≡ (p.run + 1) % 2 ^ 64
  pub lines_after_turn : (p : Processor) (local : List ℕ) → k.ask_of p local ≡ Local → (k.after_turn p local).lines ≡ p.lines
  pub run_after_finish : (p : Processor) (local : List ℕ) (r : Request) (word lines : ℕ) → k.ask_of p local ≡ Outside r → (k.after_finish p local word lines).run ≡ (p.run + 1) % 2 ^ 64
  pub lines_after_finish : (p : Processor) (local : List ℕ) (r : Request) (word lines : ℕ) → k.ask_of p local ≡ Outside r → (k.after_finish p local word lines).lines ≡ lines
  pub ask_kind : (p : Processor) (local : List ℕ) (r : Request) → k.ask_of p local ≡ Outside r → is_sync r.kind ≡ false
  pub ask_run : (p : Processor) (local : List ℕ) (r : Request) → k.ask_of p local ≡ Outside r → r.run ≡ p.run
  pub slots : KeepsSlots k.access
  pub length_after_turn : (p : Processor) (local : List ℕ) → k.ask_of p local ≡ Local → length (k.local_after_turn p local) ≡ length local
  pub marks_length_after_turn : (p : Processor) (local : List ℕ) (marks : List Bool) → k.ask_of p local ≡ Local → length (k.marks_after_turn p local marks) ≡ length marks
  pub unmarked : (p : Processor) (local : List ℕ) (marks : List Bool) (page : ℕ) → k.ask_of p local ≡ Local → length local ≡ LOCAL_WORDS → length marks ≡ local_pages → mark_at (k.marks_after_turn p local marks) page ≡ false → mark_at marks page ≡ false
  pub stays : (p : Processor) (local : List ℕ) (marks : List Bool) (i : ℕ) → k.ask_of p local ≡ Local → length local ≡ LOCAL_WORDS → length marks ≡ local_pages → mark_at (k.marks_after_turn p local marks) (i / PAGE_WORDS) ≡ false → word_at (k.local_after_turn p local) i ≡ word_at local i

-- what a cycle gives: the next machine, and at most one byte for the console
pub record Outcome : Type 0 where
  pub next : Machine
  pub out : Option ℕ

-- a cycle that writes nothing to the console
abbrev pub quiet : Machine → Outcome
quiet m = record { next = m; out = None }

-- a halt value stays
abbrev pub halt_after : Option ℕ → Option ℕ → Option ℕ
halt_after (Some value) new = Some value
halt_after None new = new

-- a cycle of the whole machine: local work; or else its access, and the processor takes the word that was read
-- and the lines of the devices
abbrev pub after_access : Core → Machine → AccessResult → Outcome
after_access k m a = record {
  next = record m { cpu = k.after_finish m.cpu m.local a.word (lines_of a.device); global = a.global; device = a.device; halt = halt_after m.halt a.halt };
  out = a.out;
}

abbrev pub core_cycle_by : Core → Machine → Ask → Outcome
core_cycle_by k m Local = quiet (record m { cpu = k.after_turn m.cpu m.local; local = k.local_after_turn m.cpu m.local })
core_cycle_by k m (Outside request) = after_access k m (k.access m.global m.device request)

abbrev pub core_cycle : Core → Machine → Outcome
core_cycle k m = core_cycle_by k m (k.ask_of m.cpu m.local)

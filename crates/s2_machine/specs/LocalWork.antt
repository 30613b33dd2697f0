-- A cycle as one processor sees it: what it asks of the outside, and what it leaves in the processor and its
-- local list. All of it depends on the processor and the local list alone.
use Rattle.std.specs.Prelude.{ℕ, Bool, List, slice_index, slice_set}
use Rattle.s2_base.specs.Words.{bytes_into_of}
use Rattle.s2_base.specs.declared.places.Place.{Place}
use Rattle.s2_base.specs.declared.places.Place.TheVariants.{Local as LocalPlace, Boot, Global, Device, Nowhere}
use Rattle.s2_ports.specs.declared.requests.Request.{Request}
use Rattle.s2_ports.specs.declared.requests.Kind.TheVariants.{Load as LoadKind, Store as StoreKind}
use Rattle.s2_store.specs.Marks.{page_marked}
use Rattle.s2_cpu.specs.Processor.{Processor}
use Rattle.s2_machine.specs.Fetch.{local_word}
use Rattle.s2_machine.specs.InstructionRows.{step_of}
use Rattle.s2_machine.specs.WriteBack.{after_step, with_lines}
use Rattle.s2_machine.specs.declared.ask.Ask.{Ask}
use Rattle.s2_machine.specs.declared.ask.Ask.TheVariants.{Local, Outside}
use Rattle.s2_machine.specs.declared.step.Step.{Step}
use Rattle.s2_machine.specs.declared.step.Step.TheVariants.{Load, Store}

-- an access of global memory or a device is a request, by the word's address and the run count; a load asks
-- for the whole word
abbrev pub load_request : Processor → ℕ → Request
load_request p address = record { kind = LoadKind; address = address; word = 0; mask = 15; run = p.run }

abbrev pub store_request : Processor → ℕ → ℕ → ℕ → Request
store_request p address word mask = record { kind = StoreKind; address = address; word = word; mask = mask; run = p.run }

abbrev pub ask_at : Place → Request → Ask
ask_at (Global i) request = Outside request
ask_at (Device k) request = Outside request
ask_at (LocalPlace i) request = Local
ask_at (Boot i) request = Local
ask_at Nowhere request = Local

abbrev pub ask_of_step : Processor → Step → Ask
ask_of_step p (Load op reg byte address place) = ask_at place (load_request p address)
ask_of_step p (Store word mask address place) = ask_at place (store_request p address word mask)
ask_of_step p step = Local

-- what the next cycle asks of the outside
abbrev pub ask_of : Processor → List ℕ → Ask
ask_of p local = ask_of_step p (step_of p local)

-- the word that a step reads in the local list
abbrev pub read_by : List ℕ → Step → ℕ
read_by local (Load op reg byte address place) = local_word local place
read_by local step = 0

-- the local list after a store at a place, and the marks of its pages
abbrev pub local_stored_at : List ℕ → Place → ℕ → ℕ → List ℕ
local_stored_at local (LocalPlace i) word mask = slice_set local i (bytes_into_of (slice_index local i) word mask)
local_stored_at local (Boot i) word mask = local
local_stored_at local (Global i) word mask = local
local_stored_at local (Device k) word mask = local
local_stored_at local Nowhere word mask = local

abbrev pub marked_at : List Bool → Place → List Bool
marked_at marks (LocalPlace i) = page_marked marks i
marked_at marks (Boot i) = marks
marked_at marks (Global i) = marks
marked_at marks (Device k) = marks
marked_at marks Nowhere = marks

abbrev pub local_after : List ℕ → Step → List ℕ
local_after local (Store word mask address place) = local_stored_at local place word mask
local_after local step = local

abbrev pub marks_after : List Bool → Step → List Bool
marks_after marks (Store word mask address place) = marked_at marks place
marks_after marks step = marks

-- after a cycle that asks nothing: the processor, the local list and the marks
abbrev pub after_turn : Processor → List ℕ → Processor
after_turn p local = after_step p (step_of p local) (read_by local (step_of p local))

abbrev pub local_after_turn : Processor → List ℕ → List ℕ
local_after_turn p local = local_after local (step_of p local)

abbrev pub marks_after_turn : Processor → List ℕ → List Bool → List Bool
marks_after_turn p local marks = marks_after marks (step_of p local)

-- after one that asked and was answered: the processor, with the word that was read and the lines
abbrev pub after_finish : Processor → List ℕ → ℕ → ℕ → Processor
after_finish p local word lines = with_lines (after_step p (step_of p local) word) lines

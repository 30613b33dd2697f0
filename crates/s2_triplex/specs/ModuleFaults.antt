-- What the script does to one module, and how a reintegration begins and ends in it.
use Rattle.std.specs.Prelude.{ℕ, true, false, Some, None, slice_set}
use Rattle.s2_ports.specs.declared.requests.Posted.{Posted}
use Rattle.s2_cpu.specs.Processor.{Processor}
use Rattle.s2_saved.specs.SavedWords.{after_word_load}
use Rattle.s2_triplex.specs.ModuleState.{ModuleState, no_marks}

-- a saved word of its processor is loaded, with the bits that its part keeps
abbrev pub module_poked : ℕ → ℕ → ModuleState → ModuleState
module_poked k v m = record m { cpu = after_word_load m.cpu k v }

-- a word of its local list is another, and the page is not marked
abbrev pub module_local_poked : ℕ → ℕ → ModuleState → ModuleState
module_local_poked i v m = record m { local = slice_set m.local i v }

-- a request stands in its port
abbrev pub module_driven : Posted → ModuleState → ModuleState
module_driven posted m = record m { port = Some posted }

-- its firings do nothing any more
abbrev pub module_muted : ModuleState → ModuleState
module_muted m = record m { muted = true }

-- a reintegration of it begins
abbrev pub module_revived : ModuleState → ModuleState
module_revived m = record m { port = None; muted = false }

-- no page is marked
abbrev pub module_unmarked : ModuleState → ModuleState
module_unmarked m = record m { marks = no_marks }

-- a reintegration ends: it waits for nothing, no frame's end is due, it is not muted, no page is marked, and it has
-- no private value any more
abbrev pub module_reset : ModuleState → ModuleState
module_reset m = record m { port = None; due = false; muted = false; marks = no_marks; private = 0 }

-- a reintegration ends with this processor
abbrev pub module_restored : Processor → ModuleState → ModuleState
module_restored cpu m = record (module_reset m) { cpu = cpu }

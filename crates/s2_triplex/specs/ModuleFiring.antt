-- A firing of one module: it counts, and where the module may work it runs a cycle or posts what it asks for.
use Rattle.std.specs.Prelude.{ℕ, ◌+◌, ◌-◌, ◌%◌, ◌&&◌, not, nat_lt, Bool, true, false, Some, None, is_some, if◌then◌else◌}
use Rattle.std.specs.declared.option.Option.{Option}
use Rattle.s2_ports.specs.declared.requests.Posted.{Posted}
use Rattle.s2_clock.specs.declared.numbers.TheConstants.{REFRESH_PERIOD, REFRESH_FIRINGS}
use Rattle.s2_machine.specs.declared.ask.Ask.{Ask}
use Rattle.s2_machine.specs.declared.ask.Ask.TheVariants.{Local, Outside}
use Rattle.s2_triplex.specs.TriplexCores.{TriplexCore}
use Rattle.s2_triplex.specs.ModuleState.{ModuleState, replica_of, with_replica, replica_ask, after_local_cycle}

-- the number of the first firing of a period that goes to refresh
abbrev pub first_refresh : ℕ
first_refresh = REFRESH_PERIOD - REFRESH_FIRINGS

-- the firing is counted, and nothing else happens
abbrev pub module_idled : ModuleState → ModuleState
module_idled m = record m { fires = (m.fires + 1) % REFRESH_PERIOD }

-- the firings of a member work, unless it is muted or they go to refresh
abbrev pub is_working : ModuleState → Bool → Bool
is_working m member = member && (not m.muted && nat_lt m.fires first_refresh)

-- work: a cycle where it asks nothing; else the request is posted, with the number of events accepted so far, and
-- the private value is the number of the next firing
abbrev pub after_work : TriplexCore → ℕ → ModuleState → Ask → ModuleState
after_work k seen m Local = record (with_replica m (after_local_cycle k (replica_of m))) { marks = k.core.marks_after_turn m.cpu m.local m.marks }
after_work k seen m (Outside request) = record m { port = Some (record { request = request; seen = seen }); private = m.fires }

-- a module that waits for an answer does not work
abbrev pub after_work_unless_waiting : TriplexCore → ℕ → ModuleState → Option Posted → ModuleState
after_work_unless_waiting k seen m (Some posted) = m
after_work_unless_waiting k seen m None = after_work k seen m (replica_ask k (replica_of m))

-- a firing of a module
abbrev pub module_fired : TriplexCore → ℕ → Bool → ModuleState → ModuleState
module_fired k seen member m =
    if is_working m member then after_work_unless_waiting k seen (module_idled m) m.port else module_idled m

-- a tick of a module, which fires or misses it
abbrev pub module_ticked : TriplexCore → ℕ → Bool → Bool → ModuleState → ModuleState
module_ticked k seen member fires m = if fires then module_fired k seen member m else m

-- whether a module asks for the outside
abbrev pub is_outside : Ask → Bool
is_outside Local = false
is_outside (Outside request) = true

-- whether a firing posts a request
abbrev pub is_posting : TriplexCore → ModuleState → Bool → Bool
is_posting k m member = is_working m member && (not (is_some m.port) && is_outside (replica_ask k (replica_of m)))

-- The reference machine: that of the good processor that is furthest behind, with the list that the boards stand
-- for.
use Rattle.std.specs.Prelude.{ℕ, nat_lt, ◌&&◌, ◌||◌, not, List, Bool, if◌then◌else◌}
use Rattle.std.specs.declared.option.Option.{Option}
use Rattle.s2_revive.specs.MendingBoards.{memory_of}
use Rattle.s2_machine.specs.Machine.{Machine}
use Rattle.s2_triplex.specs.ModuleState.{ModuleState}
use Rattle.s2_triplex.specs.TriplexState.{TriplexState, module_at, is_good}

-- the run count of a processor
abbrev pub run_at : List ModuleState → ℕ → ℕ
run_at modules p = (module_at modules p).cpu.run

-- whether the second of two is good, and the first is not or is ahead of it
abbrev pub is_behind : Bool → Bool → ℕ → ℕ → Bool
is_behind good_p good_q run_p run_q = good_q && (not good_p || nat_lt run_q run_p)

-- the good one of two that is behind, and the first of two that are level
abbrev pub one_behind : Option ℕ → List ModuleState → ℕ → ℕ → ℕ
one_behind tainted modules p q = if is_behind (is_good tainted p) (is_good tainted q) (run_at modules p) (run_at modules q) then q else p

-- the good processor that is furthest behind, the lowest in number on a tie
abbrev pub slowest : Option ℕ → List ModuleState → ℕ
slowest tainted modules = one_behind tainted modules (one_behind tainted modules 0 1) 2

-- the least run count of a good processor
abbrev pub least_run : Option ℕ → List ModuleState → ℕ
least_run tainted modules = run_at modules (slowest tainted modules)

abbrev pub runs : TriplexState → ℕ
runs d = least_run d.tainted d.modules

-- a module as a machine with flat memories
abbrev pub machine_with : TriplexState → ModuleState → Machine
machine_with d m = record { cpu = m.cpu; local = m.local; global = memory_of d.boards; device = d.device; halt = d.halt }

abbrev pub reference : TriplexState → Machine
reference d = machine_with d (module_at d.modules (slowest d.tainted d.modules))

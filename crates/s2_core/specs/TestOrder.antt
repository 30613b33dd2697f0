-- Only proofs need these: what a cycle does, in the parts in which the code tests it. Each is the list of
-- exceptions, cut where a function ends.
use Rattle.std.specs.Prelude.{ℕ, ◌*◌, ◌/◌, ◌%◌, ◌==◌, List, slice_index, Some, None, Ok, Err, if◌then◌else◌}
use Rattle.std.specs.declared.option.Option.{Option}
use Rattle.std.specs.declared.result.Result.{Result}
use Rattle.s2_base.specs.Map.{place_at}
use Rattle.s2_base.specs.declared.places.Place.{Place}
use Rattle.s2_base.specs.declared.places.Place.TheVariants.{Local, Boot, Global, Device, Nowhere}
use Rattle.s2_cp0.specs.ControlRegisters.{is_interrupted, is_isolated, is_usable}
use Rattle.s2_cpu.specs.Processor.{Processor, register}
use Rattle.s2_cpu.specs.Exceptions.{Int, AdEL, IBE, DBE, CpU, Ov, address_error, is_store}
use Rattle.s2_cpu.specs.Translation.{translated}
use Rattle.s2_cpu.specs.declared.exceptions.Exc.{Exc}
use Rattle.s2_cpu.specs.declared.exceptions.Access.TheVariants.{Fetch}
use Rattle.s2_decode.specs.Table.{decoded}
use Rattle.s2_decode.specs.declared.instr.OpM.{OpM}
use Rattle.s2_machine.specs.MemoryAccess.{access_of, is_aligned, refuses, loaded_value, stored_word, stored_mask, merge_base}
use Rattle.s2_machine.specs.InstructionRows.{step_of_instruction}
use Rattle.s2_core.specs.declared.reach.Reach.{Reach}
use Rattle.s2_core.specs.declared.reach.Reach.TheVariants.{Refused, Isolated, At}
use Rattle.s2_machine.specs.declared.step.Step.{Step}
use Rattle.s2_machine.specs.declared.step.Step.TheVariants.{Raise, Proceed, Set, Delay, Load, Store}

-- the fetch: alignment, translation, place
abbrev pub fetch_at_place : List ℕ → Place → Result ℕ Exc
fetch_at_place local (Local i) = Ok (slice_index local i)
fetch_at_place local (Boot i) = Ok (slice_index local i)
fetch_at_place local (Global i) = Err IBE
fetch_at_place local (Device k) = Err IBE
fetch_at_place local Nowhere = Err IBE

abbrev pub fetch_through : List ℕ → Result ℕ Exc → Result ℕ Exc
fetch_through local (Ok pa) = fetch_at_place local (place_at pa)
fetch_through local (Err e) = Err e

abbrev pub fetch_outcome : Processor → List ℕ → Result ℕ Exc
fetch_outcome p local = if p.pc % 4 == 0 then fetch_through local (translated p p.pc Fetch) else Err (AdEL p.pc)

-- a row that may overflow
abbrev pub set_or_overflow : ℕ → Option ℕ → Step
set_or_overflow reg (Some value) = Set reg value
set_or_overflow reg None = Raise Ov

-- a row of coprocessor 0
abbrev pub guarded_step : Processor → Step → Step
guarded_step p step = if is_usable p.cp0 then step else Raise (CpU 0)

-- a load or store: alignment, translation, isolation, place
abbrev pub isolated_step : Processor → OpM → ℕ → ℕ → Step
isolated_step p op rt byte = if is_store (access_of op) then Proceed else Delay rt (loaded_value op byte (merge_base p rt) 0)

abbrev pub placed_step : Processor → OpM → ℕ → ℕ → ℕ → Place → Step
placed_step p op rt byte address place =
    if refuses place op then Raise DBE
    else if is_store (access_of op) then Store (stored_word op byte (register p rt)) (stored_mask op byte) address place
    else Load op rt byte address place

abbrev pub addressed_step : Processor → OpM → ℕ → ℕ → ℕ → Step
addressed_step p op rt byte pa =
    if is_isolated p.cp0 then isolated_step p op rt byte
    else placed_step p op rt byte (pa / 4 * 4) (place_at (pa / 4 * 4))

abbrev pub access_through : Processor → OpM → ℕ → ℕ → Result ℕ Exc → Step
access_through p op rt byte (Ok pa) = addressed_step p op rt byte pa
access_through p op rt byte (Err e) = Raise e

abbrev pub access_step : Processor → OpM → ℕ → ℕ → Step
access_step p op rt va =
    if is_aligned op va then access_through p op rt (va % 4) (translated p va (access_of op))
    else Raise (address_error (access_of op) va)

-- the step of a load or store, by what it reaches
abbrev pub reached_step : Processor → OpM → ℕ → ℕ → Reach → Step
reached_step p op rt byte (Refused e) = Raise e
reached_step p op rt byte Isolated = isolated_step p op rt byte
reached_step p op rt byte (At address place) =
    if is_store (access_of op) then Store (stored_word op byte (register p rt)) (stored_mask op byte) address place
    else Load op rt byte address place

-- a cycle: interrupt, fetch, instruction
abbrev pub step_of_fetch : Processor → Result ℕ Exc → Step
step_of_fetch p (Ok word) = step_of_instruction p (decoded word)
step_of_fetch p (Err e) = Raise e

abbrev pub tested_step : Processor → List ℕ → Step
tested_step p local = if is_interrupted p.cp0 p.lines then Raise Int else step_of_fetch p (fetch_outcome p local)

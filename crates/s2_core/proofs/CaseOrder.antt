-- The list of a cycle's exceptions, cut where the code's functions end.
use Rattle.std.proofs.Common.{◌≡◌, ℕ, Bool, true, false, List, [], ◌∷◌, ◌++◌, Some, None, Err, if◌then◌else◌, ◌<◌, refl, sym, ap, ◌∙◌, arith}
use Rattle.std.proofs.lemmas.Bool.Decides.{nat_tests}
use Rattle.std.specs.Prelude.{◌%◌, ◌*◌, ◌/◌, ◌==◌, ◌&&◌, not}
use Rattle.std.specs.declared.option.Option.{Option}
use Rattle.s2_base.specs.Map.{place_at}
use Rattle.s2_base.specs.declared.places.Place.{Place}
use Rattle.s2_base.specs.declared.places.Place.TheVariants.{Local, Boot, Global, Device, Nowhere}
use Rattle.s2_cp0.specs.ControlRegisters.{is_interrupted, is_isolated, is_usable}
use Rattle.s2_cpu.specs.Cases.{first_that_holds}
use Rattle.s2_cpu.specs.Processor.{Processor, register}
use Rattle.s2_cpu.specs.Exceptions.{Int, AdEL, IBE, DBE, CpU, address_error, is_store}
use Rattle.s2_cpu.specs.Translation.{translation_cases, physical_of, unless}
use Rattle.s2_cpu.specs.declared.exceptions.Exc.{Exc}
use Rattle.s2_cpu.specs.declared.exceptions.Access.TheVariants.{Fetch}
use Rattle.s2_decode.specs.Table.{decoded}
use Rattle.s2_decode.specs.declared.instr.OpM.{OpM}
use Rattle.s2_decode.specs.declared.instr.Instr.TheVariants.{Memory, Foreign}
use Rattle.s2_machine.specs.Fetch.{has_instructions, local_word, fetched_word, instruction_of}
use Rattle.s2_machine.specs.MemoryAccess.{access_of, effective_address, is_aligned, refuses, loaded_value, stored_word, stored_mask, merge_base, memory_step}
use Rattle.s2_machine.specs.ExceptionCases.{fetch_cases, access_cases, instruction_cases}
use Rattle.s2_machine.specs.InstructionRows.{row, raise_or, step_of_instruction, step_of}
use Rattle.s2_machine.specs.declared.step.Step.{Step}
use Rattle.s2_machine.specs.declared.step.Step.TheVariants.{Raise, Proceed, Delay, Load, Store}
use Rattle.s2_core.specs.TestOrder.{fetch_at_place, fetch_through, fetch_outcome, access_through, access_step, step_of_fetch, tested_step}

-- of two lists, the second decides where nothing holds in the first
joined : (xs ys : List (Bool × Exc)) (s : Step) → raise_or (first_that_holds (xs ++ ys)) s ≡ raise_or (first_that_holds xs) (raise_or (first_that_holds ys) s)
joined [] ys s = refl
joined ((true, e) ∷ xs) ys s = refl
joined ((false, e) ∷ xs) ys s = joined xs ys s

-- the fetch
at_place : (local : List ℕ) (place : Place) → unless (first_that_holds ((not (has_instructions place), IBE) ∷ [])) (local_word local place) ≡ fetch_at_place local place
at_place local (Local i) = refl
at_place local (Boot i) = refl
at_place local (Global i) = refl
at_place local (Device k) = refl
at_place local Nowhere = refl

through : (local : List ℕ) (pa : ℕ) (xs : List (Bool × Exc))
    → unless (first_that_holds (xs ++ (not (has_instructions (place_at pa)), IBE) ∷ [])) (local_word local (place_at pa)) ≡ fetch_through local (unless (first_that_holds xs) pa)
through local pa [] = at_place local (place_at pa)
through local pa ((true, e) ∷ xs) = refl
through local pa ((false, e) ∷ xs) = through local pa xs

aligned : (local : List ℕ) (pa : ℕ) (b : Bool) (a : Exc) (xs : List (Bool × Exc))
    → unless (first_that_holds ((not b, a) ∷ xs ++ (not (has_instructions (place_at pa)), IBE) ∷ [])) (local_word local (place_at pa))
    ≡ (if b then fetch_through local (unless (first_that_holds xs) pa) else Err a)
aligned local pa true a xs = through local pa xs
aligned local pa false a xs = refl

fetch_cut : (p : Processor) (local : List ℕ) → unless (first_that_holds (fetch_cases p)) (fetched_word p local) ≡ fetch_outcome p local
fetch_cut p local = aligned local (physical_of p p.pc Fetch) (p.pc % 4 == 0) (AdEL p.pc) (translation_cases p p.pc Fetch)

-- the cycle
instruction_after : (p : Processor) (word : ℕ) (o : Option Exc) → raise_or o (step_of_instruction p (decoded word)) ≡ step_of_fetch p (unless o word)
instruction_after p word (Some e) = refl
instruction_after p word None = refl

interrupted : (b : Bool) (xs ys : List (Bool × Exc)) (s t : Step) → raise_or (first_that_holds xs) (raise_or (first_that_holds ys) s) ≡ t
    → raise_or (first_that_holds (((b, Int) ∷ xs) ++ ys)) s ≡ (if b then Raise Int else t)
interrupted true xs ys s t h = refl
interrupted false xs ys s t h = joined xs ys s ∙ h

step_cut : (p : Processor) (local : List ℕ) → step_of p local ≡ tested_step p local
step_cut p local =
    interrupted (is_interrupted p.cp0 p.lines) (fetch_cases p) (instruction_cases p (instruction_of p local)) (row p (instruction_of p local)) (step_of_fetch p (fetch_outcome p local))
    (instruction_after p (fetched_word p local) (first_that_holds (fetch_cases p)) ∙ ap (step_of_fetch p) (fetch_cut p local))

-- where no interrupt is up, the fetch and the instruction decide
pub step_executed : (p : Processor) (local : List ℕ) → is_interrupted p.cp0 p.lines ≡ false → step_of_fetch p (fetch_outcome p local) ≡ step_of p local
step_executed p local e = ap (λ (b : Bool). if b then Raise Int else step_of_fetch p (fetch_outcome p local)) (sym e) ∙ sym (step_cut p local)

-- where one is up, it is taken
pub step_interrupted : (p : Processor) (local : List ℕ) → is_interrupted p.cp0 p.lines ≡ true → Raise Int ≡ step_of p local
step_interrupted p local e = ap (λ (b : Bool). if b then Raise Int else step_of_fetch p (fetch_outcome p local)) (sym e) ∙ sym (step_cut p local)

-- a load or store
isolated_or_placed : (isolated store refused : Bool) (delayed stored loaded : Step)
    → raise_or (first_that_holds (((not isolated && refused), DBE) ∷ [])) (if store then (if isolated then Proceed else stored) else (if isolated then delayed else loaded))
    ≡ (if isolated then (if store then Proceed else delayed) else if refused then Raise DBE else if store then stored else loaded)
isolated_or_placed true true true delayed stored loaded = refl
isolated_or_placed true true false delayed stored loaded = refl
isolated_or_placed true false true delayed stored loaded = refl
isolated_or_placed true false false delayed stored loaded = refl
isolated_or_placed false true true delayed stored loaded = refl
isolated_or_placed false true false delayed stored loaded = refl
isolated_or_placed false false true delayed stored loaded = refl
isolated_or_placed false false false delayed stored loaded = refl

-- a load or store at a virtual address with this physical one
abbrev at_address : Processor → OpM → ℕ → ℕ → ℕ → Step
at_address p op rt byte pa =
    if is_store (access_of op) then (if is_isolated p.cp0 then Proceed else Store (stored_word op byte (register p rt)) (stored_mask op byte) (pa / 4 * 4) (place_at (pa / 4 * 4)))
    else (if is_isolated p.cp0 then Delay rt (loaded_value op byte (merge_base p rt) 0) else Load op rt byte (pa / 4 * 4) (place_at (pa / 4 * 4)))

abbrev place_case : Processor → OpM → ℕ → Bool × Exc
place_case p op pa = ((not (is_isolated p.cp0) && refuses (place_at (pa / 4 * 4)) op), DBE)

access_after : (p : Processor) (op : OpM) (rt byte pa : ℕ) (xs : List (Bool × Exc))
    → raise_or (first_that_holds (xs ++ place_case p op pa ∷ [])) (at_address p op rt byte pa) ≡ access_through p op rt byte (unless (first_that_holds xs) pa)
access_after p op rt byte pa [] =
    isolated_or_placed (is_isolated p.cp0) (is_store (access_of op)) (refuses (place_at (pa / 4 * 4)) op)
    (Delay rt (loaded_value op byte (merge_base p rt) 0)) (Store (stored_word op byte (register p rt)) (stored_mask op byte) (pa / 4 * 4) (place_at (pa / 4 * 4))) (Load op rt byte (pa / 4 * 4) (place_at (pa / 4 * 4)))
access_after p op rt byte pa ((true, e) ∷ xs) = refl
access_after p op rt byte pa ((false, e) ∷ xs) = access_after p op rt byte pa xs

access_aligned : (b : Bool) (a : Exc) (p : Processor) (op : OpM) (rt byte pa : ℕ) (xs : List (Bool × Exc))
    → raise_or (first_that_holds ((not b, a) ∷ xs ++ place_case p op pa ∷ [])) (at_address p op rt byte pa)
    ≡ (if b then access_through p op rt byte (unless (first_that_holds xs) pa) else Raise a)
access_aligned true a p op rt byte pa xs = access_after p op rt byte pa xs
access_aligned false a p op rt byte pa xs = refl

access_cut : (p : Processor) (op : OpM) (rt va : ℕ) → raise_or (first_that_holds (access_cases p op va)) (memory_step p op rt va) ≡ access_step p op rt va
access_cut p op rt va =
    access_aligned (is_aligned op va) (address_error (access_of op) va) p op rt (va % 4) (physical_of p va (access_of op)) (translation_cases p va (access_of op))

pub memory_cut : (p : Processor) (op : OpM) (rt base off : ℕ) → step_of_instruction p (Memory op rt base off) ≡ access_step p op rt (effective_address p base off)
memory_cut p op rt base off = access_cut p op rt (effective_address p base off)

-- a word of a foreign coprocessor
pub foreign_executed : (p : Processor) (unit word : ℕ) → 0 < unit → step_of_instruction p (Foreign unit word) ≡ Raise (CpU unit)
foreign_executed p unit word low =
    let test : (unit == 0) ≡ false = grind (arith, nat_tests) in
    ap (λ (b : Bool). raise_or (if not (b && is_usable p.cp0) then Some (CpU unit) else None) Proceed) test

-- Local memory by kseg0: which word is fetched there, and what a load or store does there.
use Rattle.std.proofs.Common.{◌≡◌, ℕ, Some, None, Bool, true, false, List, [], ◌∷◌, Result, Ok, Err, if◌then◌else◌, ◌<◌, ◌≤◌, refl, sym, ap, ◌∙◌, arith}
use Rattle.std.proofs.lemmas.Bool.Decides.{nat_tests}
use Rattle.std.specs.Prelude.{◌-◌, ◌%◌, ◌*◌, ◌/◌, ◌==◌, ◌&&◌, not, nat_le, nat_lt, slice_index}
use Rattle.s2_base.specs.Map.{place_at, segment_at}
use Rattle.s2_base.specs.declared.map.TheConstants.{LOCAL_END, UNMAPPED_START}
use Rattle.s2_base.specs.declared.places.Place.{Place}
use Rattle.s2_base.specs.declared.places.Place.TheVariants.{Local}
use Rattle.s2_base.specs.declared.places.Segment.{Segment}
use Rattle.s2_base.specs.declared.places.Segment.TheVariants.{Direct}
use Rattle.s2_cp0.specs.ControlRegisters.{is_user, is_isolated, enables_interrupts, is_interrupted}
use Rattle.s2_cpu.specs.Cases.{first_that_holds}
use Rattle.s2_cpu.specs.Processor.{Processor}
use Rattle.s2_cpu.specs.Exceptions.{AdEL, Mod, address_error, failed_look_up}
use Rattle.s2_cpu.specs.Translation.{look_up, is_denied, is_mapped, is_miss, is_invalid, is_read_only, is_in_kuseg, address_through, translated, unless}
use Rattle.s2_cpu.specs.declared.exceptions.Exc.{Exc}
use Rattle.s2_cpu.specs.declared.exceptions.Access.{Access}
use Rattle.s2_cpu.specs.declared.exceptions.Access.TheVariants.{Fetch}
use Rattle.s2_decode.specs.declared.instr.OpM.{OpM}
use Rattle.s2_machine.specs.MemoryAccess.{access_of, is_aligned}
use Rattle.s2_machine.specs.declared.step.Step.TheVariants.{Raise}
use Rattle.s2_core.specs.declared.reach.Reach.TheVariants.{At}
use Rattle.s2_core.specs.Kseg0.{is_near, near_index, fetches_near, fetches_quietly, accesses_near}
use Rattle.s2_core.specs.TestOrder.{fetch_at_place, fetch_through, fetch_outcome, placed_step, isolated_step, addressed_step, access_through, access_step, reached_step}

-- both of two hold
both : (a b c : Bool) → (a && (b && c)) ≡ true → (a ≡ true) × (b ≡ true) × (c ≡ true)
both true true true h = (refl, refl, refl)
both false b c h = grind arith
both true false c h = grind arith
both true true false h = grind arith

two : (a b : Bool) → (a && b) ≡ true → (a ≡ true) × (b ≡ true)
two true true h = (refl, refl)
two true false h = grind arith
two false b h = grind arith

negated : (b : Bool) → not b ≡ true → b ≡ false
negated false h = refl
negated true h = grind arith

-- the processor is in kernel mode, the address is kseg0's, and its word is of local memory
pub record IsNear (p : Processor) (va : ℕ) : Type 0 where
  pub kernel : not (is_user p.cp0) ≡ true
  pub from : UNMAPPED_START ≤ va
  pub to : va - UNMAPPED_START < LOCAL_END

pub near : (p : Processor) (va : ℕ) → is_near p va ≡ true → IsNear p va
near p va h =
    let (kernel, from, to) = both (not (is_user p.cp0)) (nat_le UNMAPPED_START va) (nat_lt (va - UNMAPPED_START) LOCAL_END) h in
    record { kernel = kernel; from = grind (arith, nat_tests); to = grind (arith, nat_tests) }

-- where interrupts are off, none is taken
off : (b any : Bool) → not b ≡ true → (b && any) ≡ false
off false any h = refl
off true any h = grind arith

some_of : (b : Bool) (x i : ℕ) → Some i ≡ (if b then Some x else None) → b ≡ true
some_of true x i h = refl
some_of false x i h = grind arith

pub quiet : (p : Processor) (index : ℕ) → Some index ≡ (if fetches_quietly p then Some (near_index p.pc) else None) → is_interrupted p.cp0 p.lines ≡ false
quiet p index h =
    let (disabled, rest) = two (not (enables_interrupts p.cp0)) _ (some_of (fetches_quietly p) _ index h) in
    off (enables_interrupts p.cp0) _ disabled

-- its segment and its place
direct : (user : Bool) (va : ℕ) → not user ≡ true → UNMAPPED_START ≤ va → va - UNMAPPED_START < LOCAL_END → segment_at va user ≡ Direct (va - UNMAPPED_START)
direct true va u low high = grind arith
direct false va u low high = grind (arith, nat_tests)

placed : (pa : ℕ) → pa < LOCAL_END → place_at pa ≡ Local (pa / 4)
placed pa high = grind (arith, nat_tests)

-- it is translated without the buffer
translated_by : Processor → ℕ → Access → Segment → Result ℕ Exc
translated_by p va access segment =
    unless (first_that_holds ((is_denied segment, address_error access va)
    ∷ ((is_mapped segment && is_miss (look_up p va access)), failed_look_up access (is_in_kuseg va) va)
    ∷ ((is_mapped segment && is_invalid (look_up p va access)), failed_look_up access false va)
    ∷ ((is_mapped segment && is_read_only (look_up p va access)), Mod va)
    ∷ [])) (address_through segment (look_up p va access))

translated_near : (p : Processor) (va : ℕ) (access : Access) → IsNear p va → translated p va access ≡ Ok (va - UNMAPPED_START)
unfolding translated_by
translated_near p va access h = ap (translated_by p va access) (direct (is_user p.cp0) va h.kernel h.from h.to)

-- the fetch
fetch_near : (p : Processor) (local : List ℕ) (b : Bool) → b ≡ true → IsNear p p.pc
    → Ok (slice_index local (near_index p.pc)) ≡ (if b then fetch_through local (translated p p.pc Fetch) else Err (AdEL p.pc))
fetch_near p local b e h =
    ap (fetch_at_place local) (sym (placed (p.pc - UNMAPPED_START) h.to))
    ∙ ap (fetch_through local) (sym (translated_near p p.pc Fetch h))
    ∙ ap (λ (b : Bool). if b then fetch_through local (translated p p.pc Fetch) else Err (AdEL p.pc)) (sym e)

pub fetched_near : (p : Processor) (local : List ℕ) → fetches_near p ≡ true → Ok (slice_index local (near_index p.pc)) ≡ fetch_outcome p local
fetched_near p local h =
    let (aligned, reached) = two (p.pc % 4 == 0) (is_near p p.pc) h in
    fetch_near p local (p.pc % 4 == 0) aligned (near p p.pc reached)

-- a load or store
address_near : (p : Processor) (op : OpM) (rt byte pa : ℕ) → is_isolated p.cp0 ≡ false → pa < LOCAL_END
    → reached_step p op rt byte (At (pa / 4 * 4) (Local (pa / 4))) ≡ addressed_step p op rt byte pa
address_near p op rt byte pa e high =
    ap (λ (place : Place). placed_step p op rt byte (pa / 4 * 4) place) (sym (placed (pa / 4 * 4) (grind arith) ∙ ap Local (grind arith)))
    ∙ ap (λ (b : Bool). if b then isolated_step p op rt byte else placed_step p op rt byte (pa / 4 * 4) (place_at (pa / 4 * 4))) (sym e)

pub accessed_near : (p : Processor) (op : OpM) (rt va : ℕ) → accesses_near p op va ≡ true
    → reached_step p op rt (va % 4) (At (near_index va * 4) (Local (near_index va))) ≡ access_step p op rt va
accessed_near p op rt va h =
    let (aligned, rest) = two (is_aligned op va) _ h in
    let (whole, reached) = two (not (is_isolated p.cp0)) (is_near p va) rest in
    let at = near p va reached in
    address_near p op rt (va % 4) (va - UNMAPPED_START) (negated (is_isolated p.cp0) whole) at.to
    ∙ ap (access_through p op rt (va % 4)) (sym (translated_near p va (access_of op) at))
    ∙ ap (λ (b : Bool). if b then access_through p op rt (va % 4) (translated p va (access_of op)) else Raise (address_error (access_of op) va)) (sym aligned)

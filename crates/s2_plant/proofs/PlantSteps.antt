-- Each step keeps what every plant keeps.
use Rattle.std.proofs.Common.{◌≡◌, ℕ, ◌+◌, ◌-◌, ◌^◌, ◌<◌, ◌≤◌, List, [], ◌∷◌, length, refl, arith, zero, suc, sym, ap, subst, ◌∙◌}
use Rattle.std.specs.Prelude.{Bool, true, false, Some, None, nat_lt, ◌++◌, if◌then◌else◌, ◌==◌}
use Rattle.std.specs.declared.option.Option.{Option}
use Rattle.s2_clock.specs.Frames.{IsFrame}
use Rattle.s2_voter.specs.VoterState.{latch_of}
use Rattle.s2_script.specs.declared.entry.Act.{Act}
use Rattle.s2_script.specs.declared.entry.Act.TheVariants.{Event as EventAct, Poke, PokeLocal, Drive, Mute, Remove, Revive, Board, Mend}
use Rattle.s2_journal.specs.declared.note.Reason.{Reason}
use Rattle.s2_plant_laws.specs.RepairProgress.{WordsFit, has_saved}
use Rattle.s2_triplex.specs.R2000Triplex.{r2000_triplex}
use Rattle.s2_triplex.specs.TriplexState.{TriplexState, Reintegration, started_triplex, module_at, with_frame}
use Rattle.s2_triplex.specs.CopyHolds.{copied}
use Rattle.s2_triplex.specs.TickStep.{ticked}
use Rattle.s2_triplex.specs.ActStep.{acted, is_revivable, revived}
use Rattle.s2_triplex.specs.StepRefusals.{act_refusal, tick_refusal}
use Rattle.s2_triplex.specs.StepTurns.{next_after_act, next_after_tick, next_unless_refused}
use Rattle.s2_triplex_laws.specs.TriplexStates.{IsActCall}
use Rattle.s2_triplex_laws.proofs.R2000Boards.{r2000_triplex_core}
use Rattle.s2_triplex_laws.proofs.PromptEvents.{tick_accepts}
use Rattle.s2_triplex_laws.proofs.TriplexStates.{act_keeps_state, start_is_state, tick_keeps_state}
use Rattle.s2_plant.specs.ActRanges.{IsActInRange}
use Rattle.s2_plant.specs.StepParts.{copied_count, is_saved}
use Rattle.s2_plant.specs.StepPromises.{IsFirstPlant, IsPlant}

-- the start of a program
pub plant_started : (frame entry : ℕ) (local global : List ℕ) → IsFrame frame → length local ≡ 278528 → length global ≡ 262144 → IsPlant (started_triplex frame entry local global)
plant_started frame entry local global f size boards = record { state = start_is_state r2000_triplex frame entry local global r2000_triplex_core f size boards; events = omega arith }

-- a first plant with another frame
pub plant_framed : (d : TriplexState) (frame : ℕ) → IsFirstPlant d → IsFrame frame → IsPlant (with_frame frame d)
plant_framed d frame h f = subst (λ (e : TriplexState). IsPlant (with_frame frame e)) (sym h.is) (plant_started frame h.entry h.local h.global f h.local_words h.global_words)

pub first_framed : (d : TriplexState) (frame : ℕ) → IsFirstPlant d → IsFirstPlant (with_frame frame d)
first_framed d frame h = record { frame = frame; entry = h.entry; local = h.local; global = h.global; local_words = h.local_words; global_words = h.global_words; is = ap (with_frame frame) h.is }

-- no module of it has run, and no processor is latched
pub first_runs : (d : TriplexState) → IsFirstPlant d → (p : ℕ) → p < 3 → (module_at d.modules p).cpu.run ≡ 0
first_runs d h p low = ap (λ (e : TriplexState). (module_at e.modules p).cpu.run) h.is ∙ by_place p low
  where
    by_place : (p : ℕ) → p < 3 → (module_at (started_triplex h.frame h.entry h.local h.global).modules p).cpu.run ≡ 0
    by_place zero low = refl
    by_place (suc zero) low = refl
    by_place (suc (suc zero)) low = refl
    by_place (suc (suc (suc p))) low = absurd (omega arith)

pub first_latches : (d : TriplexState) → IsFirstPlant d → (p : ℕ) → p < 3 → latch_of d.voter p ≡ None
first_latches d h p low = ap (λ (e : TriplexState). latch_of e.voter p) h.is ∙ by_place p low
  where
    by_place : (p : ℕ) → p < 3 → latch_of (started_triplex h.frame h.entry h.local h.global).voter p ≡ None
    by_place zero low = refl
    by_place (suc zero) low = refl
    by_place (suc (suc zero)) low = refl
    by_place (suc (suc (suc p))) low = absurd (omega arith)

-- what the parts ask of a tick
pub delivered_room : (d : TriplexState) → IsPlant d → d.delivered ≤ 2 ^ 64 - 9
delivered_room d k = let inbox = k.state.invariant.masking.agreement.inbox in let events = k.events in omega arith

pub never_saved : (d : TriplexState) → IsPlant d → is_saved d.reintegration ≡ false
never_saved d k = by_case d.reintegration refl
  where
    by_case : (o : Option Reintegration) → d.reintegration ≡ o → is_saved o ≡ false
    by_case None e = refl
    by_case (Some j) e = (k.state.repair.opened j e).copied.unsaved

few_words : (saved : Bool) (syncs words : ℕ) → WordsFit saved syncs words → words < 2 ^ 64 - 1
few_words false syncs words h = let a = h.0 in let b = h.1 in omega arith
few_words true syncs words h = let a = h.0 in let b = h.1 in omega arith

pub few_copied : (d : TriplexState) → IsPlant d → copied_count d.reintegration < 2 ^ 64 - 1
few_copied d k = by_case d.reintegration refl
  where
    by_case : (o : Option Reintegration) → d.reintegration ≡ o → copied_count o < 2 ^ 64 - 1
    by_case None e = omega arith
    by_case (Some j) e = let few = few_words (has_saved j.copying.left) j.copying.syncs (j.copied + length j.copying.left) (k.state.counted j e).progress.fits in omega arith

-- a tick accepts no event
accepts_unless : (refusal : Option Reason) (new old : TriplexState) → new.accepted ≡ old.accepted → (next_unless_refused refusal new old).accepted ≡ old.accepted
accepts_unless None new old h = h
accepts_unless (Some reason) new old h = refl

pub plant_ticked : (d : TriplexState) (mask : ℕ) → IsPlant d → d.halt ≡ None → d.ticks < 2 ^ 40 → IsPlant (next_after_tick r2000_triplex d mask)
plant_ticked d mask k runs room = record {
  state = tick_keeps_state r2000_triplex d mask r2000_triplex_core k.state runs room;
  events = let same = accepts_unless (tick_refusal d mask) (ticked r2000_triplex d mask).next d (tick_accepts r2000_triplex d mask) in let events = k.events in omega arith;
}

-- an act accepts at most one
one_event : (b : Bool) (d e : TriplexState) → e.accepted ≡ d.accepted + 1 → (if b then e else d).accepted ≤ d.accepted + 1
one_event true d e h = omega arith
one_event false d e h = omega arith

act_accepts : (d : TriplexState) (act : Act) → (acted act d).accepted ≤ d.accepted + 1
act_accepts d (EventAct event) = one_event (nat_lt (length d.inbox) 64) d (record d { inbox = d.inbox ++ event ∷ []; accepted = d.accepted + 1 }) refl
act_accepts d (Poke p k v) = omega arith
act_accepts d (PokeLocal p i v) = omega arith
act_accepts d (Drive p posted) = omega arith
act_accepts d (Mute p) = omega arith
act_accepts d (Remove p) = omega arith
act_accepts d (Revive p) = by_test (is_revivable p d)
  where
    by_test : (b : Bool) → (if b then revived p d else d).accepted ≤ d.accepted + 1
    by_test true = omega arith
    by_test false = omega arith
act_accepts d (Board fault) = omega arith
act_accepts d (Mend board) = omega arith

few_unless : (refusal : Option Reason) (new old : TriplexState) → new.accepted ≤ old.accepted + 1 → (next_unless_refused refusal new old).accepted ≤ old.accepted + 1
few_unless None new old h = h
few_unless (Some reason) new old h = omega arith

-- the ranges of an act are those of a call
pub act_call : (act : Act) → IsActInRange act → IsActCall act
act_call (EventAct event) h = h
act_call (Poke p k v) h = tt
act_call (PokeLocal p i v) h = tt
act_call (Drive p posted) h = tt
act_call (Mute p) h = tt
act_call (Remove p) h = tt
act_call (Revive p) h = tt
act_call (Board fault) h = h
act_call (Mend board) h = tt

pub plant_acted : (d : TriplexState) (act : Act) → IsPlant d → d.halt ≡ None → d.accepted < 2 ^ 60 → IsActInRange act → IsPlant (next_after_act d act)
plant_acted d act k runs room range = record {
  state = act_keeps_state r2000_triplex d act r2000_triplex_core k.state runs (act_call act range);
  events = let more = few_unless (act_refusal d act) (acted act d) d (act_accepts d act) in omega arith;
}

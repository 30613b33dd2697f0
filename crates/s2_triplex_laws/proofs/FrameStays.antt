-- No step changes the frame.
use Rattle.std.proofs.Common.{◌≡◌, ℕ, [], ◌∷◌, ◌+◌, ◌++◌, List, length, refl, ◌∙◌}
use Rattle.std.specs.Prelude.{Bool, true, false, nat_lt, Some, None, if◌then◌else◌}
use Rattle.std.specs.declared.option.Option.{Option}
use Rattle.s2_join.specs.declared.item.Item.{Item}
use Rattle.s2_join.specs.declared.item.Item.TheVariants.{Local, Saved}
use Rattle.s2_join.specs.CopyOrder.{is_last_item}
use Rattle.s2_voter.specs.declared.verdicts.Verdict.{Verdict}
use Rattle.s2_voter.specs.declared.verdicts.Verdict.TheVariants.{Waiting, Done, Split}
use Rattle.s2_script.specs.declared.entry.Act.{Act}
use Rattle.s2_script.specs.declared.entry.Act.TheVariants.{Event, Poke, PokeLocal, Drive, Mute, Remove, Revive, Board, Mend}
use Rattle.s2_journal.specs.declared.note.Reason.{Reason}
use Rattle.s2_triplex.specs.TriplexCores.{TriplexCore}
use Rattle.s2_triplex.specs.TriplexState.{TriplexState, Reintegration}
use Rattle.s2_triplex.specs.VoterDecision.{StepResult, no_effects, after_verdict, tick_verdict, is_sync_verdict}
use Rattle.s2_triplex.specs.TickFirings.{after_firings}
use Rattle.s2_triplex.specs.CopyHolds.{is_holding, hold_begun, hold_begun_if, item_copied, saved_word_copied, copied, after_idle_tick, after_hold_tick}
use Rattle.s2_triplex.specs.TickStep.{ticked, after_working_tick}
use Rattle.s2_triplex.specs.ActStep.{acted, is_revivable, revived}
use Rattle.s2_triplex.specs.StepRefusals.{act_refusal, tick_refusal}
use Rattle.s2_triplex.specs.StepTurns.{next_unless_refused}
use Rattle.s2_triplex.specs.TriplexSteps.{clock_tick, script_act}
use Rattle.s2_triplex.specs.declared.numbers.TheConstants.{INBOX_EVENTS}
use Rattle.s2_triplex_laws.specs.TriplexStates.{StepsKeepFrame}

item_frame : (d : TriplexState) (j : Reintegration) (left : List Item) → (item_copied d j left).frame ≡ d.frame
item_frame d j [] = refl
item_frame d j (Local i ∷ left) = refl
item_frame d j (Saved n ∷ left) = by_test (is_last_item (Saved n))
  where
    by_test : (b : Bool) → (saved_word_copied b d j).frame ≡ d.frame
    by_test true = refl
    by_test false = refl

copy_frame : (d : TriplexState) (o : Option Reintegration) → (copied d o).frame ≡ d.frame
copy_frame d None = refl
copy_frame d (Some j) = item_frame d j j.copying.left

begin_frame : (sync : Bool) (d : TriplexState) → (hold_begun_if sync d).frame ≡ d.frame
begin_frame false d = refl
begin_frame true d = by_open d.reintegration
  where
    by_open : (o : Option Reintegration) → (hold_begun d o).frame ≡ d.frame
    by_open None = refl
    by_open (Some j) = refl

verdict_frame : (k : TriplexCore) (d : TriplexState) (v : Verdict) → (after_verdict k d v).next.frame ≡ d.frame
verdict_frame k d Waiting = refl
verdict_frame k d Split = refl
verdict_frame k d (Done r differ late) = refl

tick_frame : (k : TriplexCore) (d : TriplexState) (mask : ℕ) → (ticked k d mask).next.frame ≡ d.frame
tick_frame k d mask = by_test (is_holding d.reintegration)
  where
    by_test : (b : Bool) → (if b then (let s : StepResult = record { next = after_hold_tick d mask; effects = no_effects } in s) else after_working_tick k d mask).next.frame ≡ d.frame
    by_test true = copy_frame (after_idle_tick d mask) d.reintegration
    by_test false =
        begin_frame (is_sync_verdict (tick_verdict k d mask)) (after_verdict k (after_firings k d mask) (tick_verdict k d mask)).next ∙
        verdict_frame k (after_firings k d mask) (tick_verdict k d mask)

either_frame : (b : Bool) (d e : TriplexState) → e.frame ≡ d.frame → (if b then e else d).frame ≡ d.frame
either_frame true d e h = h
either_frame false d e h = refl

act_frame : (d : TriplexState) (act : Act) → (acted act d).frame ≡ d.frame
act_frame d (Event event) = either_frame (nat_lt (length d.inbox) INBOX_EVENTS) d (record d { inbox = d.inbox ++ event ∷ []; accepted = d.accepted + 1 }) refl
act_frame d (Poke p k v) = refl
act_frame d (PokeLocal p i v) = refl
act_frame d (Drive p posted) = refl
act_frame d (Mute p) = refl
act_frame d (Remove p) = refl
act_frame d (Revive p) = either_frame (is_revivable p d) d (revived p d) refl
act_frame d (Board fault) = refl
act_frame d (Mend board) = refl

frame_unless : (refusal : Option Reason) (new old : TriplexState) → new.frame ≡ old.frame → (next_unless_refused refusal new old).frame ≡ old.frame
frame_unless None new old h = h
frame_unless (Some reason) new old h = refl

pub steps_keep_frame : StepsKeepFrame
steps_keep_frame k d (clock_tick mask) = frame_unless (tick_refusal d mask) (ticked k d mask).next d (tick_frame k d mask)
steps_keep_frame k d (script_act act) = frame_unless (act_refusal d act) (acted act d) d (act_frame d act)

-- Ticks that make nothing known, as a part of a line's run: they write nothing.
use Rattle.std.proofs.Common.{◌≡◌, ℕ, zero, suc, ◌+◌, ◌<◌, refl, sym, ap, arith, ◌∙◌, subst}
use Rattle.std.specs.Prelude.{Some, None, Ok}
use Rattle.std.specs.declared.option.Option.{Option}
use Rattle.s2_journal.specs.declared.note.Reason.{Reason}
use Rattle.s2_triplex.specs.R2000Triplex.{r2000_triplex}
use Rattle.s2_triplex.specs.TriplexState.{TriplexState}
use Rattle.s2_triplex.specs.TickStep.{ticked}
use Rattle.s2_triplex.specs.StepRefusals.{tick_refusal}
use Rattle.s2_triplex.specs.StepTurns.{next_unless_refused}
use Rattle.s2_triplex.specs.TriplexSteps.{clock_tick}
use Rattle.s2_plant.specs.StepParts.{blank_turn}
use Rattle.s2_plant.specs.TickRuns.{after_ticks, answer_after}
use Rattle.s2_plant.proofs.TickRuns.{tick_taken}
use Rattle.s2_run.specs.ScriptRuns.{ScriptRun, halt_end, ticks_run}
use Rattle.s2_run.specs.RunTranscript.{Taken}
use Rattle.s2_run.specs.ScriptRunParts.{HasRun}
use Rattle.s2_run.proofs.StepCounts.{tick_accepts}
use Rattle.s2_run.proofs.StageTranscripts.{transcript_none}
use Rattle.s2_run.proofs.ScriptStages.{ran_step, step_made, ticks_up}

accepts_by : (d : TriplexState) (mask : ℕ) (r : Option Reason) → (next_unless_refused r (ticked r2000_triplex d mask).next d).accepted ≡ d.accepted
accepts_by d mask None = tick_accepts r2000_triplex d mask
accepts_by d mask (Some reason) = refl

-- what such ticks add up to
pub record SilentTicks (d : TriplexState) (mask n : ℕ) : Type 0 where
  pub running : (after_ticks r2000_triplex mask n d).halt ≡ None
  pub ticks : (after_ticks r2000_triplex mask n d).ticks ≡ d.ticks + n
  pub accepted : (after_ticks r2000_triplex mask n d).accepted ≡ d.accepted

pub silent_ticks : (d : TriplexState) (mask n : ℕ) → d.halt ≡ None → ((j : ℕ) → j < n → answer_after r2000_triplex mask j d ≡ Ok blank_turn) → SilentTicks d mask n
unfolding after_ticks
silent_ticks d mask zero runs silent = record { running = runs; ticks = omega arith; accepted = refl }
silent_ticks d mask (suc n) runs silent =
    let before = silent_ticks d mask n runs (λ j h. silent j (omega arith)) in
    let tells = tick_taken (after_ticks r2000_triplex mask n d) mask blank_turn (silent n (omega arith)) in
    record {
      running = tells.1;
      ticks = omega (arith, tells.0, before.ticks);
      accepted = accepts_by (after_ticks r2000_triplex mask n d) mask (tick_refusal (after_ticks r2000_triplex mask n d) mask) ∙ before.accepted;
    }

-- a line that has run so many ticks has run these too, with nothing more written
pub ran_silent : {p : TriplexState} {w u : ℕ} {before mid : Taken} (line mask : ℕ) (d : TriplexState) (i n : ℕ) → HasRun (ticks_run line mask d i) None p w u before mid → p.halt ≡ None
    → ((j : ℕ) → j < n → answer_after r2000_triplex mask j p ≡ Ok blank_turn) → HasRun (ticks_run line mask d (i + n)) None (after_ticks r2000_triplex mask n p) w u before mid
unfolding after_ticks
ran_silent {p} {w} {u} {before} {mid} line mask d i zero run halts silent =
    let same : i ≡ i + 0 = omega arith in
    subst (λ (k : ℕ). HasRun (ticks_run line mask d k) None p w u before mid) same run
ran_silent {p} {w} {u} {before} {mid} line mask d i (suc n) run halts silent =
    let first = ran_silent line mask d i n run halts (λ j h. silent j (omega arith)) in
    let here = silent n (omega arith) in
    let tells = tick_taken (after_ticks r2000_triplex mask n p) mask blank_turn here in
    let one = step_made line (after_ticks r2000_triplex mask n p) (clock_tick mask) blank_turn (after_ticks r2000_triplex mask (suc n) p) None u 0 mid mid (sym here) refl (ap halt_end (sym tells.1)) refl (sym (transcript_none mid)) in
    let both = ran_step line (clock_tick mask) first one in
    let next : i + n + 1 ≡ i + suc n = omega arith in
    let same : u + 0 ≡ u = omega arith in
    subst (λ (v : ℕ). HasRun (ticks_run line mask d (i + suc n)) None (after_ticks r2000_triplex mask (suc n) p) w v before mid) same
    (subst (λ (r : ScriptRun). HasRun r None (after_ticks r2000_triplex mask (suc n) p) w (u + 0) before mid) (ticks_up line mask d (i + n) ∙ ap (ticks_run line mask d) next) both)

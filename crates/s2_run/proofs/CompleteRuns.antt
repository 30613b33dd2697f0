-- A run in which no count rises is done, where its script is read to its end or its program halts.
use Rattle.std.proofs.Common.{◌≡◌, ℕ, ◌∷◌, Bool, true, false, List, [], refl, sym, ap, arith, ◌∙◌, subst, inl, inr}
use Rattle.std.specs.Prelude.{Some, None, Ok, Err, ◌⊎◌}
use Rattle.std.specs.List.{list_all}
use Rattle.std.specs.declared.option.Option.{Option}
use Rattle.std.specs.declared.result.Result.{Result}
use Rattle.s2_elf.specs.Files.{accepts, refusal, conditions, first_false}
use Rattle.s2_elf.specs.Images.{image_of}
use Rattle.s2_elf.specs.declared.fault.ElfFault.{ElfFault}
use Rattle.s2_journal.specs.declared.note.End.{End}
use Rattle.s2_journal.specs.declared.note.End.TheVariants.{Script, Halt, Bad, Outside, TooLong, Report}
use Rattle.s2_triplex.specs.TriplexState.{TriplexState}
use Rattle.s2_run.specs.LoadedFiles.{IsAccepted}
use Rattle.s2_run.specs.SeenObjects.{Seen, streams_of}
use Rattle.s2_text.specs.InputLines.{lines_of}
use Rattle.s2_run.specs.ScriptRuns.{ChoosesFrame, ScriptRun, end_of}
use Rattle.s2_run.specs.ScriptEndings.{RunsInput}
use Rattle.s2_run.specs.MaskedRuns.{first_triplex}
use Rattle.s2_run.specs.RunCommand.{run_status, end_status, RunsFile, RunCause, IsWholeEnd, IsUndisturbed}
use Rattle.s2_run.specs.declared.output.StreamFault.TheVariants.{Read, Write}
use Rattle.s2_run.specs.declared.fault.ProgramFault.{ProgramFault}
use Rattle.s2_run.specs.declared.fault.ProgramFault.TheVariants.{File, Stream, Memory as NoMemory}
use Rattle.s2_run.specs.declared.run.RunEnd.{RunEnd}
use Rattle.s2_run.specs.declared.run.RunEnd.TheVariants.{Ended, Refused, TooBig}
use Rattle.s2_run.specs.declared.status.Status.{Status}
use Rattle.s2_run.specs.declared.status.Status.TheVariants.{Done, Memory}
use Rattle.s2_run.proofs.FrameChoice.{one_frame}
use Rattle.s2_run.proofs.OneRun.{inputs_have_one_run}

by_first : (b : Bool) (fault : ElfFault) (cs : List (Bool × ElfFault)) → (list_all (λ (c : Bool × ElfFault). c.0) cs ≡ true → first_false cs ≡ None) → list_all (λ (c : Bool × ElfFault). c.0) ((b, fault) ∷ cs) ≡ true → first_false ((b, fault) ∷ cs) ≡ None
by_first true fault cs rest h = rest h
by_first false fault cs rest h = absurd cc

all_hold : (cs : List (Bool × ElfFault)) → list_all (λ (c : Bool × ElfFault). c.0) cs ≡ true → first_false cs ≡ None
all_hold [] h = refl
all_hold (c ∷ cs) h = by_first c.0 c.1 cs (all_hold cs) h

pub accepted_is_not_refused : (file : List ℕ) (fault : ElfFault) → accepts file ≡ true → refusal file ≡ Some fault → ⊥
accepted_is_not_refused file fault a r = (let none = all_hold (conditions file) a in let e : Some fault ≡ None = sym r ∙ none in cc)

pub whole_is_done : (end : End) → IsWholeEnd end → end_status end ≡ Done
whole_is_done Script h = refl
whole_is_done (Halt value) h = refl
whole_is_done (Bad line column) h = absurd h
whole_is_done (Outside line reason) h = absurd h
whole_is_done (TooLong line) h = absurd h
whole_is_done Report h = absurd h

by_outcome : (name file input : List ℕ) (outcome : Result RunEnd ProgramFault) (last : Option TriplexState) (old new : Seen) (frame : ℕ) (run : ScriptRun) (left : Option (List ℕ)) → IsAccepted file → RunsFile file input outcome last (streams_of old) (streams_of new) → RunCause name outcome last old new →
    ChoosesFrame (lines_of input) frame → RunsInput (first_triplex frame (image_of file)) input run left → IsWholeEnd (end_of run.end) → IsUndisturbed name old new → (run_status outcome ≡ Done) ⊎ (run_status outcome ≡ Memory)
by_outcome name file input (Ok (Ended end)) last old new frame run left a told cause chosen runs whole quiet =
    let ends = told.1.ends in
    let ran = ends.2 in
    let frames : ends.0 ≡ frame = one_frame (lines_of input) ends.0 frame ends.1 chosen in
    let here : RunsInput (first_triplex frame (image_of file)) input ran.run new.input.left = subst (λ (f : ℕ). RunsInput (first_triplex f (image_of file)) input ran.run new.input.left) frames ran.runs in
    let same = (inputs_have_one_run (first_triplex frame (image_of file)) input run ran.run left new.input.left runs here).0 in
    let end_is : end ≡ end_of run.end = ran.end_is ∙ ap (λ (r : ScriptRun). end_of r.end) (sym same) in
    inl (ap end_status end_is ∙ whole_is_done (end_of run.end) whole)
by_outcome name file input (Ok (Refused fault)) last old new frame run left a told cause chosen runs whole quiet = absurd (accepted_is_not_refused file fault a.accepted told.0.refused)
by_outcome name file input (Ok TooBig) last old new frame run left a told cause chosen runs whole quiet = absurd (omega (arith, a.fits, told.0))
by_outcome name file input (Err File) last old new frame run left a told cause chosen runs whole quiet = absurd (quiet.desk cause.0)
by_outcome name file input (Err (Stream Read)) last old new frame run left a told cause chosen runs whole quiet = absurd (quiet.input cause.0)
by_outcome name file input (Err (Stream Write)) last old new frame run left a told (inl h, of) chosen runs whole quiet = absurd (quiet.console h)
by_outcome name file input (Err (Stream Write)) last old new frame run left a told (inr h, of) chosen runs whole quiet = absurd (quiet.report h)
by_outcome name file input (Err NoMemory) last old new frame run left a told cause chosen runs whole quiet = inr refl

pub is_complete : (name file input : List ℕ) (outcome : Result RunEnd ProgramFault) (answer : Status) (last : Option TriplexState) (old new : Seen) (frame : ℕ) (run : ScriptRun) (left : Option (List ℕ)) → answer ≡ run_status outcome → IsAccepted file → RunsFile file input outcome last (streams_of old) (streams_of new) → RunCause name outcome last old new →
    ChoosesFrame (lines_of input) frame → RunsInput (first_triplex frame (image_of file)) input run left → IsWholeEnd (end_of run.end) → IsUndisturbed name old new → (answer ≡ Done) ⊎ (answer ≡ Memory)
is_complete name file input outcome answer last old new frame run left is a told cause chosen runs whole quiet =
    subst (λ (s : Status). (s ≡ Done) ⊎ (s ≡ Memory)) (sym is) (by_outcome name file input outcome last old new frame run left a told cause chosen runs whole quiet)

-- A replay, from its lines and its closing lines.
use Rattle.std.proofs.Common.{◌≡◌, ℕ, ◌<◌, List, take, length, ap, ◌∙◌, inl, subst}
use Rattle.std.specs.Prelude.{Ok, Err}
use Rattle.std.specs.declared.option.Option.{Option}
use Rattle.std.specs.declared.result.Result.{Result}
use Rattle.s2_io.specs.Sinks.{appended}
use Rattle.s2_machine.specs.Machine.{Machine}
use Rattle.s2_machine.specs.MachineRun.{RunState}
use Rattle.s2_journal.specs.declared.note.End.{End}
use Rattle.s2_elf.specs.MemoryImage.{MemoryImage}
use Rattle.s2_elf.specs.Images.{image_of}
use Rattle.s2_run.specs.LoadedFiles.{IsAccepted}
use Rattle.s2_run.specs.Execution.{started_image}
use Rattle.s2_run.specs.SingleCommand.{ProgramEnds, SingleEnds}
use Rattle.s2_run.specs.declared.fault.ProgramFault.{ProgramFault}
use Rattle.s2_run.specs.declared.fault.ProgramFault.TheVariants.{File, Stream, Memory as NoMemory}
use Rattle.s2_run.specs.declared.single.SingleEnd.{SingleEnd}
use Rattle.s2_run.specs.declared.single.SingleEnd.TheVariants.{Replayed, Refused, TooBig}
use Rattle.s2_run.specs.ReportText.{replay_lines}
use Rattle.s2_run.specs.Replay.{replayed, replay_end, replay_closing, ReplayEnds, IsReplayed, IsClosingCut}
use Rattle.s2_run.specs.ReplayParts.{IsRunThrough, LinesEnd}
use Rattle.s2_run.specs.SeenObjects.{Streams, streams}
use Rattle.s2_run.specs.declared.output.StreamFault.{StreamFault}
use Rattle.s2_run.specs.declared.output.StreamFault.TheVariants.{Read, Write}
use Rattle.s2_run.specs.declared.replay.ReplayedLines.{ReplayedLines}

-- lines that came to no end
pub lines_fail : (m : Machine) (input : List ℕ) (fault : StreamFault) (m' : Machine) (old new : Streams) → LinesEnd m input (Err fault) m' old new → ReplayEnds m input (Err fault) old new
lines_fail m input Read m' old new h = h
lines_fail m input Write m' old new h = inl h

-- the closing lines that the code writes
closing_is : (m : Machine) (input : List ℕ) (found : ReplayedLines) (m' : Machine) (old new : Streams) (runs : ℕ) (end : End) → (r : IsRunThrough m input found m' old new) → runs ≡ m'.cpu.run → end ≡ replay_end found.verdict m'.halt
    → replay_lines runs found.bytes end ≡ replay_closing found.verdict (replayed m r.said)
closing_is m input found m' old new runs end r count ends =
    let ran : RunState = replayed m r.said in
    ap (λ (n : ℕ). replay_lines n found.bytes end) (count ∙ ap (λ (q : Machine). q.cpu.run) r.machine_is)
    ∙ (ap (λ (n : ℕ). replay_lines ran.machine.cpu.run n end) r.bytes_are
    ∙ ap (λ (e : End). replay_lines ran.machine.cpu.run (length ran.bytes) e) (ends ∙ ap (λ (q : Machine). replay_end found.verdict q.halt) r.machine_is))

-- they were written
pub replay_done : (m : Machine) (input : List ℕ) (found : ReplayedLines) (m' : Machine) (left left' console console' report report' : Option (List ℕ)) (runs : ℕ) (end : End)
    → IsRunThrough m input found m' (streams left console report) (streams left' console' report) → runs ≡ m'.cpu.run → end ≡ replay_end found.verdict m'.halt → report' ≡ appended report (replay_lines runs found.bytes end)
    → IsReplayed m input found.verdict (streams left console report) (streams left' console' report')
replay_done m input found m' left left' console console' report report' runs end r count ends took = record {
  said = r.said;
  reading = r.reading;
  console_took = r.console_took;
  report_took = took ∙ ap (appended report) (closing_is m input found m' (streams left console report) (streams left' console' report) runs end r count ends);
}

-- they were cut
pub closing_cut : (m : Machine) (input : List ℕ) (found : ReplayedLines) (m' : Machine) (left left' console console' report report' : Option (List ℕ)) (runs : ℕ) (end : End) (cut : ℕ)
    → IsRunThrough m input found m' (streams left console report) (streams left' console' report) → runs ≡ m'.cpu.run → end ≡ replay_end found.verdict m'.halt → cut < length (replay_lines runs found.bytes end) → report' ≡ appended report (take cut (replay_lines runs found.bytes end))
    → IsClosingCut m input (streams left console report) (streams left' console' report')
closing_cut m input found m' left left' console console' report report' runs end cut r count ends short took =
    let same = closing_is m input found m' (streams left console report) (streams left' console' report) runs end r count ends in
    record {
      verdict = found.verdict;
      said = r.said;
      reading = r.reading;
      console_took = r.console_took;
      cut = record {
        bytes = cut;
        short = subst (λ (t : List ℕ). cut < length t) same short;
        wrote = took ∙ ap (λ (t : List ℕ). appended report (take cut t)) same;
      };
    }

-- the program of an accepted file
pub program_ends : (file input : List ℕ) (image : MemoryImage) (outcome : Result SingleEnd ProgramFault) (old new : Streams) → IsAccepted file → image ≡ image_of file → ProgramEnds (started_image image) input outcome old new → SingleEnds file input outcome old new
program_ends file input image (Ok (Replayed verdict)) old new accepted same h = (accepted, subst (λ (i : MemoryImage). ReplayEnds (started_image i) input (Ok verdict) old new) same h)
program_ends file input image (Ok (Refused fault)) old new accepted same h = absurd h
program_ends file input image (Ok TooBig) old new accepted same h = absurd h
program_ends file input image (Err File) old new accepted same h = absurd h
program_ends file input image (Err (Stream Read)) old new accepted same h = (accepted, subst (λ (i : MemoryImage). ReplayEnds (started_image i) input (Err Read) old new) same h)
program_ends file input image (Err (Stream Write)) old new accepted same h = inl (accepted, subst (λ (i : MemoryImage). ReplayEnds (started_image i) input (Err Write) old new) same h)
program_ends file input image (Err NoMemory) old new accepted same h = h

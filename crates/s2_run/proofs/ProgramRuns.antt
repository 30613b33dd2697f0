-- The run of a file's program, and its refusal.
use Rattle.std.proofs.Common.{◌≡◌, List, ℕ, subst, inl}
use Rattle.std.specs.Prelude.{Ok, Err}
use Rattle.std.specs.declared.option.Option.{Option}
use Rattle.std.specs.declared.result.Result.{Result}
use Rattle.s2_elf.specs.Images.{image_of}
use Rattle.s2_elf.specs.MemoryImage.{MemoryImage}
use Rattle.s2_triplex.specs.TriplexState.{TriplexState}
use Rattle.s2_run.specs.LoadedFiles.{IsAccepted}
use Rattle.s2_run.specs.SeenObjects.{Streams}
use Rattle.s2_run.specs.RunCommand.{ProgramRuns, RunsFile}
use Rattle.s2_run.specs.declared.output.StreamFault.TheVariants.{Read, Write}
use Rattle.s2_run.specs.declared.fault.ProgramFault.{ProgramFault}
use Rattle.s2_run.specs.declared.fault.ProgramFault.TheVariants.{File, Stream, Memory as NoMemory}
use Rattle.s2_run.specs.declared.run.RunEnd.{RunEnd}
use Rattle.s2_run.specs.declared.run.RunEnd.TheVariants.{Ended, Refused, TooBig}

runs_by : (file input : List ℕ) (outcome : Result RunEnd ProgramFault) (last : Option TriplexState) (old new : Streams) → IsAccepted file → ProgramRuns (image_of file) input outcome last old new → RunsFile file input outcome last old new
runs_by file input (Ok (Ended end)) last old new a h = (a, h)
runs_by file input (Ok (Refused fault)) last old new a h = absurd h
runs_by file input (Ok TooBig) last old new a h = absurd h
runs_by file input (Err File) last old new a h = absurd h
runs_by file input (Err (Stream Read)) last old new a h = (a, h)
runs_by file input (Err (Stream Write)) last old new a h = inl (a, h)
runs_by file input (Err NoMemory) last old new a h = h

pub program_runs : (file input : List ℕ) (image : MemoryImage) (outcome : Result RunEnd ProgramFault) (last : Option TriplexState) (old new : Streams) → IsAccepted file → image ≡ image_of file → ProgramRuns image input outcome last old new → RunsFile file input outcome last old new
program_runs file input image outcome last old new a is h = runs_by file input outcome last old new a (subst (λ (i : MemoryImage). ProgramRuns i input outcome last old new) is h)

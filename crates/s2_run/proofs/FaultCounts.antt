-- What the counts tell by the outcome of a command, they tell by its answer.
use Rattle.std.proofs.Common.{◌≡◌, refl, sym, subst, inl, inr}
use Rattle.std.specs.Prelude.{Ok, Err}
use Rattle.std.specs.declared.result.Result.{Result}
use Rattle.s2_journal.specs.declared.note.End.{End}
use Rattle.s2_run.specs.SeenObjects.{Seen}
use Rattle.s2_run.specs.FaultCounts.{SinkSame, DeskSame, StreamsSame, FaultsAreTold, StreamCounts}
use Rattle.s2_run.specs.RunCommand.{run_status, RunCounts}
use Rattle.s2_run.specs.SingleCommand.{single_status, SingleCounts}
use Rattle.s2_run.specs.CheckCommand.{check_status}
use Rattle.s2_run.specs.LoadCommand.{load_status, WorkloadCounts}
use Rattle.s2_run.specs.declared.output.StreamFault.{StreamFault}
use Rattle.s2_run.specs.declared.output.StreamFault.TheVariants.{Read, Write}
use Rattle.s2_run.specs.declared.fault.ProgramFault.{ProgramFault}
use Rattle.s2_run.specs.declared.fault.ProgramFault.TheVariants.{File, Stream, Memory as NoMemory}
use Rattle.s2_run.specs.declared.run.RunEnd.{RunEnd}
use Rattle.s2_run.specs.declared.run.RunEnd.TheVariants.{Ended, Refused, TooBig}
use Rattle.s2_run.specs.declared.single.SingleEnd.{SingleEnd}
use Rattle.s2_run.specs.declared.single.SingleEnd.TheVariants.{Replayed, Refused as RefusedFile, TooBig as LargeFile}
use Rattle.s2_run.specs.declared.verdict.Verdict.{Verdict}
use Rattle.s2_run.specs.declared.load.WorkloadFault.{WorkloadFault}
use Rattle.s2_run.specs.declared.load.WorkloadFault.TheVariants.{Write as NoWrite, Memory as NoRoom}
use Rattle.s2_run.specs.declared.status.Status.{Status}
use Rattle.s2_run.specs.declared.status.Status.TheVariants.{ReadFault, WriteFault}

desk_same : (old new : Seen) → new.desk ≡ old.desk → DeskSame old.desk new.desk
desk_same old new is = subst (λ d. DeskSame old.desk d) (sym is) (record { failed = λ name. refl; large = refl })

-- no count rose
all_told : (answer : Status) (old new : Seen) → DeskSame old.desk new.desk → StreamsSame old new → FaultsAreTold answer old new
all_told answer old new d s = record {
  desk = λ ne. d.failed;
  input = λ ne. s.input;
  one = inl d.failed;
  large = λ ne nw. d.large;
  console = λ ne. s.console;
  report = λ ne. s.report;
}

-- one of the input, or one of the sinks
read_told : (old new : Seen) → DeskSame old.desk new.desk → SinkSame old.console new.console → SinkSame old.report new.report → FaultsAreTold ReadFault old new
read_told old new d c r = record {
  desk = λ ne. d.failed;
  input = λ ne. absurd (ne refl);
  one = inl d.failed;
  large = λ ne nw. d.large;
  console = λ ne. c;
  report = λ ne. r;
}

write_told : (old new : Seen) → ((name : _) → new.desk.faults name ≡ old.desk.faults name) → new.input.faults ≡ old.input.faults → FaultsAreTold WriteFault old new
write_told old new d s = record {
  desk = λ ne. d;
  input = λ ne. s;
  one = inl d;
  large = λ ne nw. absurd (nw refl);
  console = λ ne. absurd (ne refl);
  report = λ ne. absurd (ne refl);
}

run_by : (outcome : Result RunEnd ProgramFault) (old new : Seen) → RunCounts outcome old new → FaultsAreTold (run_status outcome) old new
run_by (Ok (Ended end)) old new h = all_told _ old new h.0 h.1
run_by (Ok (Refused fault)) old new h = all_told _ old new h.0 h.1
run_by (Ok TooBig) old new h = record { desk = λ ne. h.0; input = λ ne. h.1.input; one = inl h.0; large = λ ne nw. absurd (ne refl); console = λ ne. h.1.console; report = λ ne. h.1.report }
run_by (Err File) old new h = record { desk = λ ne. absurd (ne refl); input = λ ne. h.1.input; one = inr h.1.input; large = λ ne nw. h.0; console = λ ne. h.1.console; report = λ ne. h.1.report }
run_by (Err (Stream Read)) old new h = read_told old new h.0 h.1 h.2
run_by (Err (Stream Write)) old new h = write_told old new h.0 h.1
run_by (Err NoMemory) old new h = all_told _ old new h.0 h.1

pub run_told : (answer : Status) (outcome : Result RunEnd ProgramFault) (old new : Seen) → answer ≡ run_status outcome → RunCounts outcome old new → FaultsAreTold answer old new
run_told answer outcome old new is h = subst (λ (s : Status). FaultsAreTold s old new) (sym is) (run_by outcome old new h)

single_by : (outcome : Result SingleEnd ProgramFault) (old new : Seen) → SingleCounts outcome old new → FaultsAreTold (single_status outcome) old new
single_by (Ok (Replayed verdict)) old new h = all_told _ old new h.0 h.1
single_by (Ok (RefusedFile fault)) old new h = all_told _ old new h.0 h.1
single_by (Ok LargeFile) old new h = record { desk = λ ne. h.0; input = λ ne. h.1.input; one = inl h.0; large = λ ne nw. absurd (ne refl); console = λ ne. h.1.console; report = λ ne. h.1.report }
single_by (Err File) old new h = record { desk = λ ne. absurd (ne refl); input = λ ne. h.1.input; one = inr h.1.input; large = λ ne nw. h.0; console = λ ne. h.1.console; report = λ ne. h.1.report }
single_by (Err (Stream Read)) old new h = read_told old new h.0 h.1 h.2
single_by (Err (Stream Write)) old new h = write_told old new h.0 h.1
single_by (Err NoMemory) old new h = all_told _ old new h.0 h.1

pub single_told : (answer : Status) (outcome : Result SingleEnd ProgramFault) (old new : Seen) → answer ≡ single_status outcome → SingleCounts outcome old new → FaultsAreTold answer old new
single_told answer outcome old new is h = subst (λ (s : Status). FaultsAreTold s old new) (sym is) (single_by outcome old new h)

-- a command that does not touch the desk
check_by : (outcome : Result Verdict StreamFault) (old new : Seen) → new.desk ≡ old.desk → StreamCounts outcome old.input.faults new.input.faults old.console new.console old.report new.report → FaultsAreTold (check_status outcome) old new
check_by (Ok verdict) old new same h = all_told _ old new (desk_same old new same) (record { input = h.0; console = h.1; report = h.2 })
check_by (Err Read) old new same h = read_told old new (desk_same old new same) h.0 h.1
check_by (Err Write) old new same h = write_told old new (desk_same old new same).failed h

pub check_told : (answer : Status) (outcome : Result Verdict StreamFault) (old new : Seen) → answer ≡ check_status outcome → new.desk ≡ old.desk → StreamCounts outcome old.input.faults new.input.faults old.console new.console old.report new.report → FaultsAreTold answer old new
check_told answer outcome old new is same h = subst (λ (s : Status). FaultsAreTold s old new) (sym is) (check_by outcome old new same h)

-- nor the input
load_by : (outcome : Result End WorkloadFault) (old new : Seen) → new.desk ≡ old.desk → new.input.faults ≡ old.input.faults → WorkloadCounts outcome old.console new.console old.report new.report → FaultsAreTold (load_status outcome) old new
load_by (Ok end) old new same left h = all_told _ old new (desk_same old new same) (record { input = left; console = h.0; report = h.1 })
load_by (Err NoWrite) old new same left h = write_told old new (desk_same old new same).failed left
load_by (Err NoRoom) old new same left h = all_told _ old new (desk_same old new same) (record { input = left; console = h.0; report = h.1 })

pub load_told : (answer : Status) (outcome : Result End WorkloadFault) (old new : Seen) → answer ≡ load_status outcome → new.desk ≡ old.desk → new.input.faults ≡ old.input.faults → WorkloadCounts outcome old.console new.console old.report new.report → FaultsAreTold answer old new
load_told answer outcome old new is same left h = subst (λ (s : Status). FaultsAreTold s old new) (sym is) (load_by outcome old new same left h)

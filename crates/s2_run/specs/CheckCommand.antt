-- How the command `check` ends.
use Rattle.std.specs.Prelude.{ℕ, ◌≡◌, ◌+◌, ◌≤◌, List, drop, Some, Ok, Err}
use Rattle.std.specs.declared.option.Option.{Option}
use Rattle.std.specs.declared.result.Result.{Result}
use Rattle.s2_io.specs.Counts.{Rose}
use Rattle.s2_io.specs.Sinks.{appended}
use Rattle.s2_run.specs.declared.limits.TheConstants.{INPUT_LIMIT}
use Rattle.s2_run.specs.ReportText.{verdict_line}
use Rattle.s2_run.specs.SeenObjects.{Seen, SinkSeen, IsCut, SinkRose}
use Rattle.s2_run.specs.ScriptCheck.{Judges}
use Rattle.s2_run.specs.declared.verdict.Verdict.{Verdict}
use Rattle.s2_run.specs.declared.verdict.Verdict.TheVariants.{Passed, Bad, TooLong as LongInput}
use Rattle.s2_run.specs.declared.output.StreamFault.{StreamFault}
use Rattle.s2_run.specs.declared.output.StreamFault.TheVariants.{Read, Write}
use Rattle.s2_run.specs.declared.status.Status.{Status}
use Rattle.s2_run.specs.declared.status.Status.TheVariants.{Done, BadLine, TooLong, ReadFault, WriteFault}

-- the status of an outcome
abbrev pub check_status : Result Verdict StreamFault → Status
check_status (Ok Passed) = Done
check_status (Ok (Bad line column)) = BadLine line column
check_status (Ok (LongInput line)) = TooLong line
check_status (Err Read) = ReadFault
check_status (Err Write) = WriteFault

-- a front of the input was taken, of at most one byte more than an input may have
pub record TakesFront (input : List ℕ) (left : Option (List ℕ)) : Type 0 where
  pub bytes : ℕ
  pub within : bytes ≤ INPUT_LIMIT + 1
  pub left_is : left ≡ Some (drop bytes input)

-- where the input tells its bytes: the verdict is right, and its line was written; or a read failed, and nothing was written;
-- or the verdict is right, and its line was cut
abbrev pub CheckEnds : List ℕ → Result Verdict StreamFault → Option (List ℕ) → Option (List ℕ) → Option (List ℕ) → Type 0
CheckEnds input (Ok verdict) left report report' = Judges input verdict left × (report' ≡ appended report (verdict_line verdict))
CheckEnds input (Err Read) left report report' = TakesFront input left × (report' ≡ report)
CheckEnds input (Err Write) left report report' = (verdict : Verdict) × Judges input verdict left × IsCut (verdict_line verdict) report report'

-- the cause of a fault: a count of the input, or of the report, rose
abbrev pub CheckCause : Result Verdict StreamFault → ℕ → ℕ → SinkSeen → SinkSeen → Type 0
CheckCause (Ok verdict) faults faults' report report' = Unit {0}
CheckCause (Err Read) faults faults' report report' = Rose faults faults'
CheckCause (Err Write) faults faults' report report' = SinkRose report report'

-- the command, by its outcome: nothing but the input and the report is touched
pub record Checks (answer : Status) (old new : Seen) : Type 0 where
  pub outcome : Result Verdict StreamFault
  pub answer_is : answer ≡ check_status outcome
  pub told : (input : List ℕ) → old.input.left ≡ Some input → CheckEnds input outcome new.input.left old.report.taken new.report.taken
  pub cause : CheckCause outcome old.input.faults new.input.faults old.report new.report
  pub desk_same : new.desk ≡ old.desk
  pub console_same : new.console ≡ old.console

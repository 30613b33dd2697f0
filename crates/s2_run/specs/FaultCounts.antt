-- Which counts of the objects stay: a count rises only where the answer says so. How far it rises where the answer does say so is
-- not said here: an object may count as it likes.
use Rattle.std.specs.Prelude.{ℕ, ◌≡◌, ◌≢◌, ◌⊎◌, List, Ok, Err}
use Rattle.std.specs.declared.result.Result.{Result}
use Rattle.s2_run.specs.declared.limits.TheConstants.{FILE_LIMIT}
use Rattle.s2_run.specs.SeenObjects.{DeskSeen, SinkSeen, Seen}
use Rattle.s2_run.specs.declared.output.StreamFault.{StreamFault}
use Rattle.s2_run.specs.declared.output.StreamFault.TheVariants.{Read, Write}
use Rattle.s2_run.specs.declared.status.Status.{Status}
use Rattle.s2_run.specs.declared.status.Status.TheVariants.{ReadFault, WriteFault, TooBig}

-- no write of a sink failed, and none took nothing
pub record SinkSame (old new : SinkSeen) : Type 0 where
  pub faults : new.faults ≡ old.faults
  pub empty_takes : new.empty_takes ≡ old.empty_takes

-- no call of a desk failed, whatever the name
abbrev pub NoCallFailed : DeskSeen → DeskSeen → Type 0
NoCallFailed old new = (name : List ℕ) → new.faults name ≡ old.faults name

-- nor found a file too big
pub record DeskSame (old new : DeskSeen) : Type 0 where
  pub failed : NoCallFailed old new
  pub large : new.large ≡ old.large

-- no read failed, and no write
pub record StreamsSame (old new : Seen) : Type 0 where
  pub input : new.input.faults ≡ old.input.faults
  pub console : SinkSame old.console new.console
  pub report : SinkSame old.report new.report

-- What an answer tells of the counts, whatever the words. A call of the desk, or a read of the input, failed only where the answer
-- is ReadFault, and then only one of the two; a file was too big only where the answer says so, or its line could not be written;
-- and a write failed, or took nothing, only where the answer is WriteFault.
pub record FaultsAreTold (answer : Status) (old new : Seen) : Type 0 where
  pub desk : answer ≢ ReadFault → NoCallFailed old.desk new.desk
  pub input : answer ≢ ReadFault → new.input.faults ≡ old.input.faults
  pub one : NoCallFailed old.desk new.desk ⊎ (new.input.faults ≡ old.input.faults)
  pub large : answer ≢ TooBig FILE_LIMIT → answer ≢ WriteFault → new.desk.large ≡ old.desk.large
  pub console : answer ≢ WriteFault → SinkSame old.console new.console
  pub report : answer ≢ WriteFault → SinkSame old.report new.report

-- for the parts of the commands: which counts of the input and of the two sinks stay
abbrev pub StreamCounts : {T : Type 0} → Result T StreamFault → ℕ → ℕ → SinkSeen → SinkSeen → SinkSeen → SinkSeen → Type 0
StreamCounts (Ok given) faults faults' console console' report report' = (faults' ≡ faults) × SinkSame console console' × SinkSame report report'
StreamCounts (Err Read) faults faults' console console' report report' = SinkSame console console' × SinkSame report report'
StreamCounts (Err Write) faults faults' console console' report report' = faults' ≡ faults

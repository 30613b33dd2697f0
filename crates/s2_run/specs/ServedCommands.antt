-- How each command line is answered.
use Rattle.std.specs.Prelude.{◌≡◌, ◌⊎◌, None}
use Rattle.std.specs.declared.option.Option.{Option}
use Rattle.s2_triplex.specs.TriplexState.{TriplexState}
use Rattle.s2_io.specs.Sinks.{appended}
use Rattle.s2_run.specs.ReportText.{usage_line}
use Rattle.s2_run.specs.CommandWords.{Request, run, single, check, load}
use Rattle.s2_run.specs.SeenObjects.{Seen, IsCut, SinkRose}
use Rattle.s2_run.specs.RunCommand.{Runs}
use Rattle.s2_run.specs.SingleCommand.{Singles}
use Rattle.s2_run.specs.CheckCommand.{Checks}
use Rattle.s2_run.specs.LoadCommand.{Loads}
use Rattle.s2_run.specs.declared.status.Status.{Status}
use Rattle.s2_run.specs.declared.status.Status.TheVariants.{Usage, WriteFault}

-- a command that leaves no machine
pub record Without (Command : Status → Seen → Seen → Type 0) (answer : Status) (last : Option TriplexState) (old new : Seen) : Type 0 where
  pub last_is : last ≡ None
  pub command : Command answer old new

-- what is asked for is answered
abbrev pub Answers : Request → Status → Option TriplexState → Seen → Seen → Type 0
Answers (run name) = Runs name
Answers (single name) = Without (Singles name)
Answers check = Without Checks
Answers (load n) = Loads n

-- the line of the report is written, or it is cut where a count of the report rose; no other object was touched
pub record RefusesWords (answer : Status) (last : Option TriplexState) (old new : Seen) : Type 0 where
  pub last_is : last ≡ None
  pub ends : ((answer ≡ Usage) × (new.report.taken ≡ appended old.report.taken usage_line)) ⊎ ((answer ≡ WriteFault) × IsCut usage_line old.report.taken new.report.taken × SinkRose old.report new.report)
  pub desk_same : new.desk ≡ old.desk
  pub input_same : new.input ≡ old.input
  pub console_same : new.console ≡ old.console

-- What is seen of the objects of a command at a moment.
use Rattle.std.specs.Prelude.{ℕ, ◌≡◌, ◌<◌, ◌⊎◌, List, length, take}
use Rattle.std.specs.declared.option.Option.{Option}
use Rattle.s2_io.specs.Counts.{Rose}
use Rattle.s2_io.specs.Sinks.{appended}

-- a desk: the bytes that it tells of each name, how many calls for a name failed, and how many found a file too big
pub record DeskSeen : Type 0 where
  pub held : List ℕ → Option (List ℕ)
  pub faults : List ℕ → ℕ
  pub large : ℕ

-- a source: the bytes that are left, and how many reads failed
pub record SourceSeen : Type 0 where
  pub left : Option (List ℕ)
  pub faults : ℕ

-- a sink: the bytes that it has taken, how many writes failed, and how many took nothing
pub record SinkSeen : Type 0 where
  pub taken : Option (List ℕ)
  pub faults : ℕ
  pub empty_takes : ℕ

-- all of them
pub record Seen : Type 0 where
  pub desk : DeskSeen
  pub input : SourceSeen
  pub console : SinkSeen
  pub report : SinkSeen

abbrev pub desk_seen : (List ℕ → Option (List ℕ)) → (List ℕ → ℕ) → ℕ → DeskSeen
desk_seen held faults large = record { held = held; faults = faults; large = large }

abbrev pub source_seen : Option (List ℕ) → ℕ → SourceSeen
source_seen left faults = record { left = left; faults = faults }

abbrev pub sink_seen : Option (List ℕ) → ℕ → ℕ → SinkSeen
sink_seen taken faults empty_takes = record { taken = taken; faults = faults; empty_takes = empty_takes }

abbrev pub seen : DeskSeen → SourceSeen → SinkSeen → SinkSeen → Seen
seen desk input console report = record { desk = desk; input = input; console = console; report = report }

-- what is left of the input, and what the console and the report have taken
pub record Streams : Type 0 where
  pub left : Option (List ℕ)
  pub console : Option (List ℕ)
  pub report : Option (List ℕ)

abbrev pub streams : Option (List ℕ) → Option (List ℕ) → Option (List ℕ) → Streams
streams left console report = record { left = left; console = console; report = report }

abbrev pub streams_of : Seen → Streams
streams_of objects = streams objects.input.left objects.console.taken objects.report.taken

-- a count of a sink rose
abbrev pub SinkRose : SinkSeen → SinkSeen → Type 0
SinkRose old new = Rose old.faults new.faults ⊎ Rose old.empty_takes new.empty_takes

-- a line was cut: a front of it was written, and not all of it
pub record IsCut (line : List ℕ) (taken taken' : Option (List ℕ)) : Type 0 where
  pub bytes : ℕ
  pub short : bytes < length line
  pub wrote : taken' ≡ appended taken (take bytes line)

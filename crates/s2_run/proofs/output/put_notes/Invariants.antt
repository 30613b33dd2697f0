use Rattle.std.proofs.Common.{◌≡◌, ◌*◌, ◌≤◌, length, take}
use Rattle.s2_io.specs.Sinks.{appended}
use Rattle.s2_run.specs.RunTranscript.{note_lines}
use Rattle.s2_run.proofs.output.put_notes.Given as goal

-- the lines of the notes so far were taken, and no count rose
abbrev pub invariant-loop-note : goal.invariant-loop-note
invariant-loop-note g l = record {
  count : l.done ≡ length (note_lines (take l.note-index l.notes));
  bounded : l.done ≤ 128 * l.note-index;
  taken : g.K.Sink.taken l.sink ≡ appended (g.K.Sink.taken l.fn.sink) (note_lines (take l.note-index l.notes));
  faults : g.K.Sink.faults l.sink ≡ g.K.Sink.faults l.fn.sink;
  empty_takes : g.K.Sink.empty_takes l.sink ≡ g.K.Sink.empty_takes l.fn.sink;
}

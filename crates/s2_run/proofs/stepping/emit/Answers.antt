use Rattle.std.proofs.Common.{◌≡◌, ◌<◌, ℕ, length, arith, sym, ap}
use Rattle.std.specs.declared.option.Option.{Option}
use Rattle.s2_machine.specs.MachineRun.{bytes_of}
use Rattle.s2_run.specs.RunTranscript.{note_lines}
use Rattle.s2_run.proofs.StageTranscripts.{quiet_took, quiet_cut, byte_took, notes_cut, turn_size}
use Rattle.s2_run.proofs.stepping.emit.Goals as goal

pub returns-in-Ok-clause-bytes : goal.returns-in-Ok-clause-bytes
returns-in-Ok-clause-bytes g c = quiet_took c.args.turn.now _ _ _ c.in-None.ensures (rw c.notes.ensures.notes at c.in-Ok.ensures.bytes)

pub returns-in-Err-clause-bytes : goal.returns-in-Err-clause-bytes
returns-in-Err-clause-bytes g c = quiet_cut c.args.turn.now c.in-Err.cut.taken _ _ _ c.in-None.ensures (rw c.notes.ensures.notes at c.in-Err.ensures.bytes)

pub returns-in-Err-clause-cut : goal.returns-in-Err-clause-cut
returns-in-Err-clause-cut g c =
    let short : c.in-Err.cut.taken < length (note_lines c.args.turn.now.notes) = rw c.notes.ensures.notes at c.in-Err.ensures.cut in
    omega (arith, turn_size c.args.turn.now)

pub returns-in-Ok-put_notes-clause-bytes : goal.returns-in-Ok-put_notes-clause-bytes
returns-in-Ok-put_notes-clause-bytes g c = byte_took c.args.turn.now c.in-Some.byte _ _ _ _ c.in-Some.ensures c.in-Ok-put.ensures.bytes (rw c.notes-in-Some.ensures.notes at c.in-Ok-put_notes.ensures.bytes)

pub returns-in-Err-put_notes-clause-bytes : goal.returns-in-Err-put_notes-clause-bytes
returns-in-Err-put_notes-clause-bytes g c = notes_cut c.args.turn.now c.in-Some.byte c.in-Err-put_notes.cut.taken _ _ _ _ c.in-Some.ensures c.in-Ok-put.ensures.bytes (rw c.notes-in-Some.ensures.notes at c.in-Err-put_notes.ensures.bytes)

pub returns-in-Err-put_notes-clause-cut : goal.returns-in-Err-put_notes-clause-cut
returns-in-Err-put_notes-clause-cut g c =
    let short : c.in-Err-put_notes.cut.taken < length (note_lines c.args.turn.now.notes) = rw c.notes-in-Some.ensures.notes at c.in-Err-put_notes.ensures.cut in
    let one : length (bytes_of c.args.turn.now.out) ≡ 1 = ap (λ (o : Option ℕ). length (bytes_of o)) (sym c.in-Some.ensures) in
    omega (arith, turn_size c.args.turn.now)

use Rattle.std.proofs.Common.{List, ap, ◌∙◌, sym}
use Rattle.std.specs.Prelude.{None}
use Rattle.s2_journal.specs.declared.note.Note.{Note}
use Rattle.s2_triplex.specs.TriplexState.{TriplexState}
use Rattle.s2_triplex.specs.CopyHolds.{after_idle_tick}
use Rattle.s2_triplex.specs.StepTurns.{Turn}
use Rattle.s2_plant.specs.StepParts.{copied_note, first_copied}
use Rattle.s2_plant.proofs.HoldTicks.{copied_first, noted_first}
use Rattle.s2_plant.proofs.parts.Parts.hold.Goals as goal

pub copy-requires : goal.copy-requires
copy-requires c = record { blank = c.requires.blank; holding = rw c.idle.ensures c.requires.holding; few = rw c.idle.ensures c.requires.few }

pub returns-clause-machine : goal.returns-clause-machine
returns-clause-machine c =
    c.copy.ensures.machine ∙ (ap (λ (d : TriplexState). first_copied d d.reintegration) c.idle.ensures ∙ sym (copied_first (after_idle_tick c.args.self.now c.args.mask) c.args.self.now.reintegration c.requires.holding))

pub returns-clause-turn : goal.returns-clause-turn
returns-clause-turn c =
    c.copy.ensures.turn ∙ (ap (λ (d : TriplexState). let t : Turn = record { notes = copied_note d.ticks d.reintegration; out = None; halt = d.halt } in t) c.idle.ensures
    ∙ ap (λ (ns : List Note). let t : Turn = record { notes = ns; out = None; halt = c.args.self.now.halt } in t) (sym (noted_first _ c.args.self.now.reintegration c.requires.holding)))

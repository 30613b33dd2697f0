-- A fault of a board that is not refused changes nothing that is kept.
use Rattle.std.proofs.Common.{refl}
use Rattle.s2_ports.specs.declared.events.BoardFault.{BoardFault}
use Rattle.s2_triplex.specs.TriplexState.{TriplexState}
use Rattle.s2_triplex.specs.VoterDecision.{no_effects}
use Rattle.s2_triplex.specs.ActStep.{board_struck}
use Rattle.s2_triplex_laws.specs.RepairInvariant.{RepairInvariant}
use Rattle.s2_triplex_laws.specs.BoardFaultSteps.{BoardFaultKeepsRepair}
use Rattle.s2_triplex_laws.proofs.Acts.{board_acts}
use Rattle.s2_triplex_laws.proofs.LawfulSteps.{board_fault_keeps}
use Rattle.s2_triplex_laws.proofs.TicksInRepair.{repair_step, can_step}
use Rattle.s2_triplex_laws.proofs.RepairCounts.{act_counts}

struck_repair : (d : TriplexState) (fault : BoardFault) → RepairInvariant d → RepairInvariant (board_struck fault d)
struck_repair d fault r = record {
  modules = r.modules;
  fair = r.fair;
  joining = r.joining;
  opened = λ j is.
      let o = r.opened j is in
      record { membership = o.membership; tainted = o.tainted; copied = o.copied; hold = λ held. let w = o.hold held in record { now = w.now; due = w.due } };
}

pub board_fault_keeps_repair : BoardFaultKeepsRepair
board_fault_keeps_repair k d fault s below lawful =
    let f = board_fault_keeps k d fault (can_step k d s) below lawful in
    let w = repair_step k d (board_struck fault d) no_effects f.step (struck_repair d fault s.repair) in
    record {
      step = w;
      contents = f.contents;
      counts = λ counts j is.
          act_counts k s.core d (board_struck fault d) j j s.invariant w.invariant (board_acts d fault f.contents) refl (w.repair.opened j is) (record { copying = refl; revived = refl; revived_run = refl; copied = refl }) (counts j is);
    }

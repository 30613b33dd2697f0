use Rattle.std.proofs.Common.{◌≡◌, ℕ, suc, ◌<◌}
use Rattle.std.specs.Prelude.{true, false}
use Rattle.s2_core.specs.Working.{is_local}
use Rattle.s2_machine.specs.LocalWork.{ask_of}
use Rattle.s2_triplex.specs.ModuleState.{is_frame_end}
use Rattle.s2_module.specs.ModuleLeads.{IsTurned, Turning, turns}
use Rattle.s2_module.proofs.module.turns_on.Given as goal

-- the cycles so far asked nothing, and none ended a frame
abbrev pub invariant-loop-ran : goal.invariant-loop-ran
invariant-loop-ran l = record {
  at : IsTurned l.ran (record { cpu = l.fn.cpu; local = l.fn.pages.words; marks = l.fn.pages.marks }) l.cpu l.pages.words l.pages.marks;
  stays : (j : ℕ) → j < l.ran → is_local (ask_of (turns j (record { cpu = l.fn.cpu; local = l.fn.pages.words; marks = l.fn.pages.marks })).cpu (turns j (record { cpu = l.fn.cpu; local = l.fn.pages.words; marks = l.fn.pages.marks })).local) ≡ true;
  within : (j : ℕ) → 0 < j → j < suc l.ran → is_frame_end l.frame (turns j (record { cpu = l.fn.cpu; local = l.fn.pages.words; marks = l.fn.pages.marks })).cpu.run ≡ false;
}

use Rattle.std.proofs.Common.{◌≡◌, ◌+◌, ◌-◌, ◌%◌, ◌^◌, ◌<◌, ◌≤◌}
use Rattle.s2_single.proofs.SingleCycles.{HasRun}
use Rattle.s2_single.proofs.single.burst_of.Given as goal

-- the cycles so far have neither written a byte nor halted, and some are left
abbrev pub invariant-loop-cpu : goal.invariant-loop-cpu
invariant-loop-cpu l = HasRun (l.fn.limit - l.left) l.fn.cpu l.cpu l.fn.local l.local l.fn.global l.global l.fn.board l.board l.halt × ((0 < l.left) × ((l.left ≤ l.fn.limit) × (l.cpu.run ≡ (l.start + (l.fn.limit - l.left)) % 2 ^ 64)))

abbrev pub decreases-loop-cpu : goal.decreases-loop-cpu
decreases-loop-cpu l = l.left

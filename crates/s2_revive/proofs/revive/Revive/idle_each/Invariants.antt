use Rattle.std.proofs.Common.{◌≡◌}
use Rattle.s2_revive.specs.MendingBoards.{memory_of}
use Rattle.s2_revive.specs.IdleRuns.{boards_idled_by}
use Rattle.s2_revive.proofs.revive.Revive.idle_each.Given as goal

-- the turns so far
abbrev pub invariant-loop-done : goal.invariant-loop-done
invariant-loop-done l = record {
  after : l.self ≡ boards_idled_by l.done l.fn.self;
  contents : memory_of l.self ≡ memory_of l.fn.self;
}

use Rattle.std.proofs.Common.{◌≡◌, ℕ, ◌-◌, ◌<◌, ◌≤◌}
use Rattle.std.specs.Prelude.{true, false}
use Rattle.s2_triplex.specs.R2000Triplex.{r2000_triplex}
use Rattle.s2_module.specs.ModuleLeads.{module_ticks, posts_at}
use Rattle.s2_module.proofs.module.Module.lead.Given as goal

-- the firings so far, of which none posted
abbrev pub invariant-loop-quiet : goal.invariant-loop-quiet
invariant-loop-quiet l = record {
  within : l.quiet ≤ l.n;
  after : l.self ≡ module_ticks r2000_triplex l.seen true true l.quiet l.fn.self;
  silent : (j : ℕ) → j < l.quiet → posts_at r2000_triplex l.seen true true j l.fn.self ≡ false;
}

abbrev pub decreases-loop-quiet : goal.decreases-loop-quiet
decreases-loop-quiet l = l.n - l.quiet

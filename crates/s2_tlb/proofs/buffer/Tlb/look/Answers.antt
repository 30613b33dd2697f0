-- Each row of the look-up's table, at the outcome that the lowest match gives.
use Rattle.std.proofs.Common.{◌≡◌, ap, ◌∙◌}
use Rattle.std.specs.Prelude.{Option, ℕ}
use Rattle.s2_tlb.specs.TlbLookup.{look_of, match_outcome}
use Rattle.s2_tlb.proofs.LookRows.{miss, invalid, read_only, hit}
use Rattle.s2_tlb.proofs.buffer.Tlb.look.Goals as goal
use Rattle.s2_tlb.proofs.buffer.Tlb.look.Goals.{After-outcome}

value : (c : After-outcome) → c.outcome.result ≡ look_of c.args.self.now c.args.va c.args.asid c.args.store
value c = c.outcome.ensures ∙ ap (λ (used : Option ℕ). match_outcome c.args.self.now used c.args.va c.args.store) c.lowest-used.ensures.value

pub returns-clause-miss : goal.returns-clause-miss
returns-clause-miss c = rw (value c) (miss c.args.self.now c.args.va c.args.asid c.args.store)

pub returns-clause-invalid : goal.returns-clause-invalid
returns-clause-invalid c = rw (value c) (invalid c.args.self.now c.args.va c.args.asid c.args.store)

pub returns-clause-read_only : goal.returns-clause-read_only
returns-clause-read_only c = rw (value c) (read_only c.args.self.now c.args.va c.args.asid c.args.store)

pub returns-clause-hit : goal.returns-clause-hit
returns-clause-hit c = λ pa. rw (value c) (hit c.args.self.now c.args.va c.args.asid c.args.store pa)

-- A page that is remembered is hit.
use Rattle.std.proofs.Common.{ℕ, List, sym, ap, ◌∙◌, arith}
use Rattle.std.specs.Prelude.{slice_index_or}
use Rattle.s2_tlb.specs.TlbLookup.{look_of}
use Rattle.s2_tlb.proofs.RememberedPages.{recalled}
use Rattle.s2_tlb.proofs.buffer.Tlb.recall.Goals as goal

pub returns-then-allows : goal.returns-then-allows
returns-then-allows c =
    let hi = (slice_index_or c.self.inside.remembered c.remembered_place.result (0, 0)).0 in
    let e = c.if-hi-remembered_hi.true ∙ c.remembered_hi.ensures in
    ap (λ (entries : List (ℕ × ℕ)). look_of entries c.args.va c.args.asid c.args.store) (sym c.self.view_is) ∙
    recalled c.self.inside.pairs hi (slice_index_or c.self.inside.remembered c.remembered_place.result (0, 0)).1 c.args.va c.args.asid c.args.store (c.self.invariant.2.each c.remembered_place.result c.remembered_place.ensures (omega arith)) c.requires e (c.allows.ensures c.if-allows.true)

use Rattle.std.proofs.Common.{ℕ, ap, sym, ◌∙◌, arith}
use Rattle.s2_saved.proofs.WordLists.{even_word, odd_word}
use Rattle.s2_saved.proofs.words.entry_word.Goals as goal

pub returns-then-n-eq0 : goal.returns-then-n-eq0
returns-then-n-eq0 c =
    let count = c.well_formed-2.ensures.count in
    ap (λ (e : ℕ × ℕ). e.0) c.read-entry.ensures.value ∙ sym (even_word c.args.tlb.now c.args.n c.from.result c.from.ensures c.if-n-eq0.true (omega arith))

pub returns-else-n-eq0 : goal.returns-else-n-eq0
returns-else-n-eq0 c =
    let count = c.well_formed-2.ensures.count in
    ap (λ (e : ℕ × ℕ). e.1) c.read-entry.ensures.value ∙ sym (odd_word c.args.tlb.now c.args.n c.from.result c.from.ensures c.if-n-eq0.false (omega arith))

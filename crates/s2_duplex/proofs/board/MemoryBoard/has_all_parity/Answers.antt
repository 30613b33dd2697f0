use Rattle.std.proofs.Common.{◌≡◌, ◌+◌, length, ap, sym, ◌∙◌, arith, rules}
use Rattle.std.specs.Prelude.{false}
use Rattle.s2_duplex.specs.DuplexBoards.{BoardState, has_parity}
use Rattle.s2_duplex.proofs.Ranges.{all_pass, one_fails}
use Rattle.s2_duplex.proofs.board.MemoryBoard.has_all_parity.Goals as goal

pub returns-then-not-has_parity : goal.returns-then-not-has_parity
returns-then-not-has_parity c =
    let size : length c.args.self.now.words ≡ length c.self.inside.words.items = ap (λ (b : BoardState). length b.words) (sym c.self.view_is) in
    let fails : has_parity c.args.self.now c.loop-i.i ≡ false = search rules in
    sym (one_fails (has_parity c.args.self.now) 0 (length c.args.self.now.words) c.loop-i.i (omega (arith, c.self.inside.words.ok.0)) (ap (has_parity c.args.self.now) (let e : 0 + c.loop-i.i ≡ c.loop-i.i = omega arith in e) ∙ fails))

pub returns : goal.returns
returns c =
    let size : length c.args.self.now.words ≡ length c.self.inside.words.items = ap (λ (b : BoardState). length b.words) (sym c.self.view_is) in
    sym (all_pass (has_parity c.args.self.now) 0 (length c.args.self.now.words) (λ k h. ap (has_parity c.args.self.now) (let e : 0 + k ≡ k = omega arith in e) ∙ c.loop-i.invariant k (omega (arith, c.self.inside.words.ok.0))))

use Rattle.std.proofs.Common.{ℕ, ap, sym, ◌∙◌, w64}
use Rattle.std.specs.Prelude.{◌==◌}
use Rattle.std.proofs.lemmas.Nat.Bits.{bit_at_set_same, bit_at_set_other, bit_at_clear_same, bit_at_clear_other}
use Rattle.s2_duplex.proofs.bits.with_bit.Goals as goal

pub returns-then-bit-clause-same : goal.returns-then-bit-clause-same
returns-then-bit-clause-same c = ap (λ (b : ℕ). b == 1) (bit_at_set_same w64 c.args.unit c.args.k c.requires) ∙ sym c.if-bit.true

pub returns-then-bit-clause-other : goal.returns-then-bit-clause-other
returns-then-bit-clause-other c = λ j low ne. ap (λ (b : ℕ). b == 1) (bit_at_set_other w64 c.args.unit c.args.k c.requires j ne)

pub returns-else-bit-clause-same : goal.returns-else-bit-clause-same
returns-else-bit-clause-same c = ap (λ (b : ℕ). b == 1) (bit_at_clear_same w64 c.args.unit c.args.k c.requires) ∙ sym c.if-bit.false

pub returns-else-bit-clause-other : goal.returns-else-bit-clause-other
returns-else-bit-clause-other c = λ j low ne. ap (λ (b : ℕ). b == 1) (bit_at_clear_other w64 c.args.unit c.args.k c.requires j low ne)

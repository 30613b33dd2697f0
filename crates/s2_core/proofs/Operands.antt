-- The operands of a row stand in their fields of the word.
use Rattle.std.proofs.Common.{◌≡◌, ℕ, Bool, true, false, if◌then◌else◌, subst, sym, arith}
use Rattle.std.specs.Prelude.{nat_le, ◌==◌}
use Rattle.s2_decode.specs.Fields.{op_of, fn_of, rs_of, rt_of, rd_of, sa_of, imm_of, target_of}
use Rattle.s2_decode.specs.Table.{special_high, special_low, regimm, coprocessor, access, plain, decoded}
use Rattle.s2_decode.specs.declared.instr.Instr.{Instr}
use Rattle.s2_decode.specs.declared.instr.Instr.TheVariants.{Three, Shift, Imm, Lui, Jump, JumpReg, Branch, Memory}

abbrev pub HasOperands : ℕ → Instr → Type 0
HasOperands w (Three op rd rs rt) = Three op rd rs rt ≡ Three op (rd_of w) (rs_of w) (rt_of w)
HasOperands w (Shift op rd rt sa) = Shift op rd rt sa ≡ Shift op (rd_of w) (rt_of w) (sa_of w)
HasOperands w (Imm op rt rs imm) = Imm op rt rs imm ≡ Imm op (rt_of w) (rs_of w) (imm_of w)
HasOperands w (Lui rt imm) = Lui rt imm ≡ Lui (rt_of w) (imm_of w)
HasOperands w (Jump link target) = Jump link target ≡ Jump link (target_of w)
HasOperands w (JumpReg rs) = JumpReg rs ≡ JumpReg (rs_of w)
HasOperands w (Memory op rt base off) = Memory op rt base off ≡ Memory op (rt_of w) (rs_of w) (imm_of w)
HasOperands w (Branch op rs rt off) = Branch op rs rt off ≡ Branch op (rs_of w) rt (imm_of w)
HasOperands w i = Unit {0}

choice : (w : ℕ) (b : Bool) (x y : Instr) → HasOperands w x → HasOperands w y → HasOperands w (if b then x else y)
choice w true x y p q = p
choice w false x y p q = q

special_high_has : (w : ℕ) → HasOperands w (special_high w)
special_high_has w = grind arith

special_low_has : (w : ℕ) → HasOperands w (special_low w)
special_low_has w = grind arith

regimm_has : (w : ℕ) → HasOperands w (regimm w)
regimm_has w = grind arith

coprocessor_has : (w : ℕ) → HasOperands w (coprocessor w)
coprocessor_has w = grind arith

access_has : (w : ℕ) → HasOperands w (access w)
access_has w = grind arith

plain_has : (w : ℕ) → HasOperands w (plain w)
plain_has w = grind arith

decoded_has : (w : ℕ) → HasOperands w (decoded w)
decoded_has w =
    choice w (op_of w == 0) _ _ (choice w (nat_le 32 (fn_of w)) _ _ (special_high_has w) (special_low_has w))
    (choice w (op_of w == 1) _ _ (regimm_has w)
    (choice w (op_of w == 16) _ _ (coprocessor_has w)
    (choice w (nat_le 32 (op_of w)) _ _ (access_has w) (plain_has w))))

pub operands : (w : ℕ) (i : Instr) → i ≡ decoded w → HasOperands w i
operands w i e = subst (HasOperands w) (sym e) (decoded_has w)

-- A word of a foreign coprocessor is one of coprocessor 1, 2 or 3.
use Rattle.std.proofs.Common.{◌≡◌, ℕ, ◌<◌, Bool, true, false, if◌then◌else◌, subst, arith}
use Rattle.std.specs.Prelude.{nat_le, ◌==◌}
use Rattle.s2_decode.specs.Fields.{op_of, fn_of}
use Rattle.s2_decode.specs.Table.{special_high, special_low, regimm, coprocessor, access, plain, decoded}
use Rattle.s2_decode.specs.declared.instr.Instr.{Instr}
use Rattle.s2_decode.specs.declared.instr.Instr.TheVariants.{Foreign}

-- the number of a coprocessor that this machine does not have
abbrev IsAbsent : Instr → Type 0
IsAbsent (Foreign unit word) = (0 < unit) × (unit < 4)
IsAbsent i = Unit {0}

choice : (b : Bool) (x y : Instr) → IsAbsent x → IsAbsent y → IsAbsent (if b then x else y)
choice true x y p q = p
choice false x y p q = q

special_high_absent : (w : ℕ) → IsAbsent (special_high w)
special_high_absent w = grind arith

special_low_absent : (w : ℕ) → IsAbsent (special_low w)
special_low_absent w = grind arith

regimm_absent : (w : ℕ) → IsAbsent (regimm w)
regimm_absent w = grind arith

coprocessor_absent : (w : ℕ) → IsAbsent (coprocessor w)
coprocessor_absent w = grind arith

access_absent : (w : ℕ) → IsAbsent (access w)
access_absent w = grind arith

plain_absent : (w : ℕ) → IsAbsent (plain w)
plain_absent w = grind arith

decoded_absent : (w : ℕ) → IsAbsent (decoded w)
decoded_absent w =
    choice (op_of w == 0) _ _ (choice (nat_le 32 (fn_of w)) _ _ (special_high_absent w) (special_low_absent w))
    (choice (op_of w == 1) _ _ (regimm_absent w)
    (choice (op_of w == 16) _ _ (coprocessor_absent w)
    (choice (nat_le 32 (op_of w)) _ _ (access_absent w) (plain_absent w))))

pub foreign_unit : (w unit word : ℕ) → decoded w ≡ Foreign unit word → (0 < unit) × (unit < 4)
foreign_unit w unit word e = subst IsAbsent e (decoded_absent w)

-- Walks over the rows of the table, group by group: no word of an instruction is below the one that the encoder
-- makes, the instruction of a word is proper, and a row that keeps its word keeps the word that was decoded.
use Rattle.std.proofs.Common.{◌≡◌, ℕ, ◌≤◌, ◌==◌, Bool, true, false, if◌then◌else◌, refl, sym, ◌∙◌, ap, subst, arith}
use Rattle.std.specs.Prelude.{nat_le, IsTrue, ◌↔◌}
use Rattle.s2_decode.specs.Fields.{op_of, rs_of, fn_of}
use Rattle.s2_decode.specs.EncodedWords.{encoded}
use Rattle.s2_decode.specs.Table.{special_high, special_low, regimm, privileged, coprocessor, access, plain, decoded}
use Rattle.s2_decode.specs.Properness.{IsProper}
use Rattle.s2_decode.specs.declared.instr.Instr.{Instr}
use Rattle.s2_decode.specs.declared.instr.Instr.TheVariants.{Foreign, Reserved}

-- what holds of both sides of a choice holds of it
choice : (P : Instr → Type 0) (b : Bool) (x y : Instr) → (b ≡ true → P x) → (b ≡ false → P y) → P (if b then x else y)
choice P true x y p q = p refl
choice P false x y p q = q refl

-- a test of two numbers that came out true
equal : (a k : ℕ) → (a == k) ≡ true → a ≡ k
equal a k e = grind arith

-- what holds of the groups holds of the table
groups : (w : ℕ) (P : Instr → Type 0)
    → (op_of w ≡ 0 → P (special_high w)) → (op_of w ≡ 0 → P (special_low w)) → (op_of w ≡ 1 → P (regimm w))
    → (op_of w ≡ 16 → P (coprocessor w)) → P (access w) → P (plain w) → P (decoded w)
groups w P high low one sixteen from_32 below =
    choice P (op_of w == 0) _ _
    (λ e. choice P (nat_le 32 (fn_of w)) _ _ (λ _. high (equal _ _ e)) (λ _. low (equal _ _ e)))
    (λ _. choice P (op_of w == 1) _ _ (λ e. one (equal _ _ e))
    (λ _. choice P (op_of w == 16) _ _ (λ e. sixteen (equal _ _ e))
    (λ _. choice P (nat_le 32 (op_of w)) _ _ (λ _. from_32) (λ _. below))))

-- in each group the encoder's word of a row is at most the word
special_high_least : (w : ℕ) → op_of w ≡ 0 → encoded (special_high w) ≤ w
special_high_least w op = grind arith

-- five rows by hand, since `grind` stops at its limit of case splits with all eighteen
special_low_least : (w : ℕ) → encoded (special_low w) ≤ w
special_low_least w =
    let P : Instr → Type 0 = λ i. encoded i ≤ w in
    choice P (fn_of w == 0) _ _ (λ e. grind arith)
    (λ _. choice P (fn_of w == 2) _ _ (λ e. grind arith)
    (λ _. choice P (fn_of w == 3) _ _ (λ e. grind arith)
    (λ _. choice P (fn_of w == 4) _ _ (λ e. grind arith)
    (λ _. choice P (fn_of w == 6) _ _ (λ e. grind arith)
    (λ _. grind arith)))))

regimm_least : (w : ℕ) → op_of w ≡ 1 → encoded (regimm w) ≤ w
regimm_least w op = grind arith

privileged_least : (w : ℕ) → op_of w ≡ 16 → 16 ≤ rs_of w → encoded (privileged w) ≤ w
privileged_least w op rs = grind arith

coprocessor_least : (w : ℕ) → op_of w ≡ 16 → encoded (coprocessor w) ≤ w
coprocessor_least w op = grind (arith, privileged_least)

access_least : (w : ℕ) → encoded (access w) ≤ w
access_least w = grind arith

plain_least : (w : ℕ) → encoded (plain w) ≤ w
plain_least w = grind arith

-- the encoder's word of what a word decodes to is at most that word
decoded_least : (w : ℕ) → encoded (decoded w) ≤ w
decoded_least w = groups w (λ i. encoded i ≤ w) (special_high_least w) (λ _. special_low_least w) (regimm_least w) (coprocessor_least w) (access_least w) (plain_least w)

-- the word that the encoder makes of an instruction is the least of those that decode to it
pub encoded_least : (word w : ℕ) (i : Instr) → word ≡ encoded i → decoded w ≡ i → word ≤ w
encoded_least word w i made row = subst (λ n. n ≤ w) (sym made) (subst (λ j. encoded j ≤ w) row (decoded_least w))

-- two foreign instructions of one word are equal where their units are
same_foreign : (number word unit w : ℕ) → IsTrue (number == unit) → word ≡ w → Foreign number word ≡ Foreign unit w
same_foreign number word unit w same kept = grind arith

foreign_same : (number word unit w : ℕ) → Foreign number word ≡ Foreign unit w → IsTrue (number == unit)
foreign_same number word unit w e = grind arith

-- operands fit their fields, and a word that is kept whole is this one
abbrev IsHeld : ℕ → Instr → Type 0
IsHeld w (Foreign unit word) = word ≡ w
IsHeld w (Reserved word) = word ≡ w
IsHeld w i = IsProper i

-- in each group the row is held
special_high_held : (w : ℕ) → IsHeld w (special_high w)
special_high_held w = grind arith

special_low_held : (w : ℕ) → IsHeld w (special_low w)
special_low_held w = grind arith

regimm_held : (w : ℕ) → IsHeld w (regimm w)
regimm_held w = grind arith

coprocessor_held : (w : ℕ) → IsHeld w (coprocessor w)
coprocessor_held w = grind arith

access_held : (w : ℕ) → IsHeld w (access w)
access_held w = grind arith

plain_held : (w : ℕ) → IsHeld w (plain w)
plain_held w = grind arith

-- what is held and decoded is proper
held_proper : (w : ℕ) (i : Instr) → i ≡ decoded w → IsHeld w i → IsProper i
held_proper w (Foreign unit word) e h = subst (λ v. decoded v ≡ Foreign unit word) (sym h) (sym e)
held_proper w (Reserved word) e h = subst (λ v. decoded v ≡ Reserved word) (sym h) (sym e)
held_proper w i e h = h

decoded_held : (w : ℕ) → IsHeld w (decoded w)
decoded_held w = groups w (IsHeld w) (λ _. special_high_held w) (λ _. special_low_held w) (λ _. regimm_held w) (λ _. coprocessor_held w) (access_held w) (plain_held w)

-- the instruction of a word is proper
pub decoded_proper : (w : ℕ) → IsProper (decoded w)
decoded_proper w = held_proper w (decoded w) refl (decoded_held w)

-- the row of a foreign word keeps this word, so its unit tells which
pub foreign_row : (w number word unit : ℕ) → Foreign number word ≡ decoded w
    → IsTrue (number == unit) ↔ (decoded w ≡ Foreign unit w)
foreign_row w number word unit e =
    let kept : word ≡ w = subst (IsHeld w) (sym e) (decoded_held w) in
    ((λ same. sym e ∙ same_foreign number word unit w same kept), (λ row. foreign_same number word unit w (e ∙ row)))

-- the row of a reserved word keeps this word
pub reserved_row : (w word : ℕ) → Reserved word ≡ decoded w → decoded w ≡ Reserved w
reserved_row w word e = sym e ∙ ap Reserved (subst (IsHeld w) (sym e) (decoded_held w))

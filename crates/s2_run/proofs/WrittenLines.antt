-- Lines that are written are the lines that are read.
use Rattle.std.proofs.Common.{◌≡◌, ℕ, ◌+◌, Bool, true, false, cond, List, [], ◌∷◌, ◌++◌, length, append_assoc, refl, sym, ap, arith, ◌∙◌}
use Rattle.std.specs.Prelude.{◌==◌}
use Rattle.s2_text.specs.InputLines.{InputLine, IsPlain, empty_line, with_byte, lines_of, size_of, texts_of}
use Rattle.s2_run.specs.ReportText.{line_with}
use Rattle.s2_run.proofs.LineList.{feed_ends}

-- ---- lines, each with its line feed

abbrev pub written_lines : List (List ℕ) → List ℕ
written_lines [] = []
written_lines (text ∷ texts) = line_with text ++ written_lines texts

abbrev pub ArePlain : List (List ℕ) → Type 0
ArePlain [] = Unit {0}
ArePlain (text ∷ texts) = IsPlain text × ArePlain texts

pub plain_lists : (a b : List (List ℕ)) → ArePlain a → ArePlain b → ArePlain (a ++ b)
plain_lists [] b p q = q
plain_lists (x ∷ a) b p q = (p.0, plain_lists a b p.1 q)

pub written_append : (a b : List (List ℕ)) → written_lines (a ++ b) ≡ written_lines a ++ written_lines b
written_append [] b = refl
written_append (x ∷ a) b = ap (λ (t : List ℕ). line_with x ++ t) (written_append a b) ∙ sym (append_assoc (line_with x) (written_lines a) (written_lines b))

-- their texts are those that were written
pub texts_again : (texts : List (List ℕ)) → ArePlain texts → texts_of (lines_of (written_lines texts)) ≡ texts
texts_again [] p = refl
texts_again (text ∷ texts) p =
    ap (λ (t : List ℕ). texts_of (lines_of t)) (append_assoc text (10 ∷ []) (written_lines texts))
    ∙ (ap texts_of (feed_ends text (written_lines texts) p.0) ∙ ap (λ (ts : List (List ℕ)). text ∷ ts) (texts_again texts p.1))

-- ---- the size of an input's lines

byte_size : (b : ℕ) (lines : List InputLine) → size_of (with_byte b lines) ≡ size_of lines + 1
byte_size b [] = refl
byte_size b (line ∷ lines) = omega arith

size_by : (b : ℕ) (lines : List InputLine) (t : Bool) → size_of (cond t (empty_line ∷ lines) (with_byte b lines)) ≡ size_of lines + 1
size_by b lines true = omega arith
size_by b lines false = byte_size b lines

pub lines_size : (input : List ℕ) → size_of (lines_of input) ≡ length input
lines_size [] = refl
lines_size (b ∷ bs) = size_by b (lines_of bs) (b == 10) ∙ (let h = lines_size bs in omega arith)

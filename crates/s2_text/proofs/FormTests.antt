-- Tests of forms and of tables, which compute on a table that is written out: they are what its laws need.
use Rattle.std.specs.Prelude.{ℕ, ◌+◌, ◌*◌, ◌^◌, Bool, true, false, ◌&&◌, ◌||◌, not, List, [], ◌∷◌, length, nat_lt, nat_le, ◌==◌}
use Rattle.s2_text.specs.declared.lines.TheConstants.{LINE_BYTES, HASH}
use Rattle.s2_text.specs.LineGrammar.{Field, number, hex, letter, signed, label, is_name_byte, Part, word, field}

-- what comes next begins with neither a digit nor a small letter
abbrev pub starts_apart : List Part → Bool
starts_apart [] = true
starts_apart (word [] ∷ ps) = false
starts_apart (word (w ∷ ws) ∷ ps) = not (is_name_byte w)
starts_apart (field f ∷ ps) = false

-- the field has a text, its numbers fit 64 bits, and each number below its range is the front of one in the range
abbrev pub is_readable_field : Field → Bool
is_readable_field (number low high) = nat_le low high && nat_lt high (2 ^ 64) && (nat_le low 1 || nat_le (10 * low) high)
is_readable_field (hex n) = true
is_readable_field (letter []) = false
is_readable_field (letter (a ∷ others)) = true
is_readable_field signed = true
is_readable_field label = true

-- each field has a text, and neither a digit nor a small letter stands behind it: so a line is read from left to right
abbrev pub is_readable : List Part → Bool
is_readable [] = true
is_readable (word w ∷ ps) = is_readable ps
is_readable (field f ∷ ps) = is_readable_field f && starts_apart ps && is_readable ps

-- how long a text of the field can be
abbrev pub field_limit : Field → ℕ
field_limit (number low high) = 20
field_limit (hex n) = n
field_limit (letter allowed) = 1
field_limit signed = 21
field_limit label = 16

-- how long a text of the form can be
abbrev pub form_limit : List Part → ℕ
form_limit [] = 0
form_limit (word w ∷ ps) = length w + form_limit ps
form_limit (field f ∷ ps) = field_limit f + form_limit ps

-- each form is readable, and has no text that is longer than a line
abbrev pub are_short : List (List Part) → Bool
are_short [] = true
are_short (ps ∷ table) = is_readable ps && nat_le (form_limit ps) LINE_BYTES && are_short table

-- each form begins with a byte or a name, which no remark begins with
abbrev pub is_no_remark : List Part → Bool
is_no_remark [] = false
is_no_remark (word [] ∷ ps) = false
is_no_remark (word (w ∷ ws) ∷ ps) = not (w == HASH)
is_no_remark (field label ∷ ps) = true
is_no_remark (field f ∷ ps) = false

abbrev pub are_no_remarks : List (List Part) → Bool
are_no_remarks [] = true
are_no_remarks (ps ∷ table) = is_no_remark ps && are_no_remarks table

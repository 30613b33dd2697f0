-- Reading a line from left to right, which is how the readers of parts answer. What a line is says LineGrammar; this is only
-- between that and the code. A reader answers a number and the bytes behind it, or how many bytes stand from the fault on.
use Rattle.std.specs.Prelude.{◌≡◌, ℕ, zero, suc, ◌+◌, ◌-◌, ◌*◌, ◌≤◌, Bool, ◌&&◌, ◌||◌, List, [], ◌∷◌, ◌++◌, length, Option, Result, Ok, Err, nat_lt, nat_le, ◌==◌, if◌then◌else◌}
use Rattle.s2_text.specs.declared.lines.TheConstants.{LINE_BYTES, HASH}
use Rattle.s2_text.specs.declared.stops.Stop.{Stop}
use Rattle.s2_text.specs.declared.stops.BadLine.{BadLine}
use Rattle.s2_text.specs.LineGrammar.{Value, num, name, Field, number, hex, letter, signed, label, is_one_of, is_digit, is_small_letter, is_name_byte, Part, word, field, IsTextOfOne, Reaches}
use Rattle.s2_text.specs.LineTables.{LineRow, forms, SaysIn, ReadsRow, ReadsLine}

-- one reading, and then one of the bytes behind it
infixl 10 ◌>>=◌
abbrev pub ◌>>=◌ : {A B : Type 0} → Result A ℕ → (A → Result B ℕ) → Result B ℕ
(Ok x) >>= f = f x
(Err e) >>= f = Err e

-- a function's result, seen by view, is this reading
abbrev pub IsReading : {X Y : Type 0} → (X → Y) → Result X Stop → Result Y ℕ → Type 0
IsReading view (Ok x) read = read ≡ Ok (view x)
IsReading view (Err e) read = read ≡ Err e.left

-- ---- parts

-- a word at the front: what is behind it
abbrev pub word_reading : List ℕ → List ℕ → Result (List ℕ) ℕ
word_reading [] bytes = Ok bytes
word_reading (w ∷ ws) [] = Err 0
word_reading (w ∷ ws) (b ∷ bytes) = if b == w then word_reading ws bytes else Err (suc (length bytes))

-- b is a digit, and with it the number v is still at most high
abbrev pub goes_on : ℕ → ℕ → ℕ → Bool
goes_on high v b = is_digit b && nat_le (v * 10 + (b - 48)) high

-- the number that the next digits make of v, as long as it is at most high
abbrev pub digits_from : ℕ → ℕ → List ℕ → ℕ × List ℕ
digits_from high v [] = (v, [])
digits_from high v (b ∷ bytes) = if goes_on high v b then digits_from high (v * 10 + (b - 48)) bytes else (v, b ∷ bytes)

-- the number, where it is not below low
abbrev pub at_least : ℕ → ℕ × List ℕ → Result (ℕ × List ℕ) ℕ
at_least low x = if nat_lt x.0 low then Err (length x.1) else Ok x

-- a decimal number at the front
abbrev pub number_reading : ℕ → ℕ → List ℕ → Result (ℕ × List ℕ) ℕ
number_reading low high [] = Err 0
number_reading low high (b ∷ bytes) =
    if b == 48 then (if low == 0 then Ok (0, bytes) else Err (suc (length bytes)))
    else (if goes_on high 0 b then at_least low (digits_from high (b - 48) bytes) else Err (suc (length bytes)))

-- `0` to `9`, `a` to `f`
abbrev pub is_hex : ℕ → Bool
is_hex b = is_digit b || (nat_le 97 b && nat_le b 102)

-- the number of a digit of base 16
abbrev pub hex_value : ℕ → ℕ
hex_value b = if is_digit b then b - 48 else b - 87

-- so many digits of base 16 more, behind those that made v
abbrev pub hex_reading : ℕ → ℕ → List ℕ → Result (ℕ × List ℕ) ℕ
hex_reading zero v bytes = Ok (v, bytes)
hex_reading (suc n) v [] = Err 0
hex_reading (suc n) v (b ∷ bytes) = if is_hex b then hex_reading n (v * 16 + hex_value b) bytes else Err (suc (length bytes))

-- a letter of the list at the front
abbrev pub letter_reading : List ℕ → List ℕ → Result (ℕ × List ℕ) ℕ
letter_reading allowed [] = Err 0
letter_reading allowed (b ∷ bytes) = if is_one_of allowed b then Ok (b, bytes) else Err (suc (length bytes))

-- a number from 1 to 32768 behind the sign, modulo 65536
abbrev pub negated : Result (ℕ × List ℕ) ℕ → Result (ℕ × List ℕ) ℕ
negated (Ok x) = Ok (65536 - x.0, x.1)
negated (Err e) = Err e

-- a decimal number from -32768 to 32767 at the front, modulo 65536
abbrev pub signed_reading : List ℕ → Result (ℕ × List ℕ) ℕ
signed_reading [] = Err 0
signed_reading (b ∷ bytes) = if b == 45 then negated (number_reading 1 32768 bytes) else number_reading 0 32767 (b ∷ bytes)

-- the small letters and digits at the front, at most so many, and what is behind them
abbrev pub name_from : ℕ → List ℕ → List ℕ × List ℕ
name_from zero bytes = ([], bytes)
name_from (suc n) [] = ([], [])
name_from (suc n) (b ∷ bytes) = if is_name_byte b then (b ∷ (name_from n bytes).0, (name_from n bytes).1) else ([], b ∷ bytes)

-- a name at the front, as long as it goes
abbrev pub name_reading : List ℕ → Result (List ℕ × List ℕ) ℕ
name_reading [] = Err 0
name_reading (b ∷ bytes) = if is_small_letter b then Ok (b ∷ (name_from 15 bytes).0, (name_from 15 bytes).1) else Err (suc (length bytes))

-- the value of a field
abbrev pub as_number : Result (ℕ × List ℕ) ℕ → Result (Value × List ℕ) ℕ
as_number (Ok x) = Ok (num x.0, x.1)
as_number (Err e) = Err e

abbrev pub as_name : Result (List ℕ × List ℕ) ℕ → Result (Value × List ℕ) ℕ
as_name (Ok x) = Ok (name x.0, x.1)
as_name (Err e) = Err e

-- a field at the front
abbrev pub field_reading : Field → List ℕ → Result (Value × List ℕ) ℕ
field_reading (number low high) bytes = as_number (number_reading low high bytes)
field_reading (hex n) bytes = as_number (hex_reading n 0 bytes)
field_reading (letter allowed) bytes = as_number (letter_reading allowed bytes)
field_reading signed bytes = as_number (signed_reading bytes)
field_reading label bytes = as_name (name_reading bytes)

-- the end of the line
abbrev pub end_reading : List ℕ → Result (Unit {0}) ℕ
end_reading [] = Ok tt
end_reading (b ∷ bytes) = Err (suc (length bytes))

-- ---- a form

-- the values of the form's fields, behind those that were read before
abbrev pub form_reading : List Part → List Value → List ℕ → Result (List Value) ℕ
form_reading [] done bytes = end_reading bytes >>= λ _. Ok done
form_reading (word w ∷ ps) done bytes = word_reading w bytes >>= λ rest. form_reading ps done rest
form_reading (field f ∷ ps) done bytes = field_reading f bytes >>= λ x. form_reading ps (done ++ x.0 ∷ []) x.1

-- what the values say
abbrev pub answer_of : {A : Type 0} → (List Value → A) → Result (List Value) ℕ → Result A ℕ
answer_of says (Ok vs) = Ok (says vs)
answer_of says (Err left) = Err left

-- what a row's reader answers
abbrev pub ReadsForm : {A : Type 0} → LineRow A → List ℕ → Result A Stop → Type 0
ReadsForm row line result = IsReading (λ x. x) result (answer_of row.says (form_reading row.form [] line))

-- ---- a table

-- of two readings: the one that is whole, or else the one that came further
abbrev pub further_of : {A : Type 0} → Result A Stop → Result A Stop → Result A Stop
further_of (Ok x) b = Ok x
further_of (Err s) (Ok x) = Ok x
further_of (Err s) (Err t) = Err (if nat_le s.left t.left then s else t)

-- what is read, the line says, and reading stops where no text of the set goes on
abbrev pub IsExact : {A : Type 0} → (A → List ℕ → Type 0) → (List ℕ → Type 0) → List ℕ → Result A Stop → Type 0
IsExact Says S line (Ok x) = Says x line
IsExact Says S line (Err stop) = (stop.left ≤ length line) × Reaches S line (length line - stop.left)

-- what the readers of some rows answer together
pub record ReadsRows {A : Type 0} (rows : List (LineRow A)) (line : List ℕ) (result : Result A Stop) : Type 0 where
  pub is : IsExact (SaysIn rows) (IsTextOfOne (forms rows)) line result

-- a remark
abbrev pub remark_reading : List ℕ → Result (Unit {0}) ℕ
remark_reading [] = Ok tt
remark_reading (b ∷ bytes) =
    if b == HASH then (if nat_le (length bytes) (LINE_BYTES - 1) then Ok tt else Err (length bytes - (LINE_BYTES - 1)))
    else Err (suc (length bytes))

-- what was read of rows alone is what a reader of the table answers
pub record AnswersRow {A : Type 0} (rows : List (LineRow A)) (line : List ℕ) (result : Result A BadLine) : Type 0 where
  pub is : ReadsRow rows line result

-- what was read of rows and of remarks is what a reader of both answers
pub record AnswersLine {A : Type 0} (rows : List (LineRow A)) (line : List ℕ) (result : Result (Option A) BadLine) : Type 0 where
  pub is : ReadsLine rows line result

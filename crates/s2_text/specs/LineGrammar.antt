-- Lines as sets of texts. A form is a list of parts, words and fields; its texts are those that numbers in range spell.
use Rattle.std.specs.Prelude.{◌≡◌, ℕ, zero, suc, ◌-◌, ◌^◌, ◌<◌, ◌≤◌, ◌⊎◌, List, [], ◌∷◌, ◌++◌, length, take, Bool, true, false, nat_lt, nat_le, ◌==◌, ◌&&◌, ◌||◌, IsTrue, if◌then◌else◌}
use Rattle.std.specs.Fmt.{decimal}
use Rattle.s2_text.specs.HexText.{hex_text}

-- what a field gives: a number, or a name by its bytes
pub data Value : Type 0 where
  num : ℕ → Value
  name : List ℕ → Value

-- what stands for a value: a decimal number in a range, so many digits of base 16, one letter of a list, a decimal number
-- from -32768 to 32767, whose value is that number modulo 65536, or a name
pub data Field : Type 0 where
  number : (low high : ℕ) → Field
  hex : ℕ → Field
  letter : List ℕ → Field
  signed : Field
  label : Field

-- a part of a line: the same bytes in each line, or a field
pub data Part : Type 0 where
  word : List ℕ → Part
  field : Field → Part

-- one space
abbrev pub space : Part
space = word (32 ∷ [])

-- the letter is in the list
abbrev pub is_one_of : List ℕ → ℕ → Bool
is_one_of [] b = false
is_one_of (a ∷ others) b = (b == a) || is_one_of others b

-- `0` to `9`, and `a` to `z`
abbrev pub is_digit : ℕ → Bool
is_digit b = nat_le 48 b && nat_le b 57

abbrev pub is_small_letter : ℕ → Bool
is_small_letter b = nat_le 97 b && nat_le b 122

abbrev pub is_name_byte : ℕ → Bool
is_name_byte b = is_digit b || is_small_letter b

-- at most so many small letters and digits
abbrev pub are_name_bytes : ℕ → List ℕ → Bool
are_name_bytes n [] = true
are_name_bytes zero (b ∷ bytes) = false
are_name_bytes (suc n) (b ∷ bytes) = is_name_byte b && are_name_bytes n bytes

-- a name: a small letter, and up to 15 small letters and digits
abbrev pub is_name : List ℕ → Bool
is_name [] = false
is_name (b ∷ bytes) = is_small_letter b && are_name_bytes 15 bytes

-- the number from -32768 to 32767 that is v modulo 65536, with `-` before a negative one
abbrev pub signed_text : ℕ → List ℕ
signed_text v = if nat_lt v 32768 then decimal v else 45 ∷ decimal (65536 - v)

-- the one text of a value in a field; a letter is its own number
abbrev pub field_text : Field → Value → List ℕ
field_text (number low high) (num v) = decimal v
field_text (hex n) (num v) = hex_text n v
field_text (letter allowed) (num v) = v ∷ []
field_text signed (num v) = signed_text v
field_text label (num v) = []
field_text (number low high) (name l) = []
field_text (hex n) (name l) = []
field_text (letter allowed) (name l) = []
field_text signed (name l) = []
field_text label (name l) = l

-- the value is in the field's range
abbrev pub FitsField : Field → Value → Type 0
FitsField (number low high) (num v) = (low ≤ v) × (v ≤ high)
FitsField (hex n) (num v) = v < 16 ^ n
FitsField (letter allowed) (num v) = IsTrue (is_one_of allowed v)
FitsField signed (num v) = v < 65536
FitsField label (num v) = ⊥
FitsField (number low high) (name l) = ⊥
FitsField (hex n) (name l) = ⊥
FitsField (letter allowed) (name l) = ⊥
FitsField signed (name l) = ⊥
FitsField label (name l) = IsTrue (is_name l)

-- there are as many values as fields, each in its field's range
abbrev pub Fits : List Part → List Value → Type 0
Fits [] [] = Unit {0}
Fits [] (v ∷ vs) = ⊥
Fits (word w ∷ ps) vs = Fits ps vs
Fits (field f ∷ ps) [] = ⊥
Fits (field f ∷ ps) (v ∷ vs) = FitsField f v × Fits ps vs

-- the one text of values in a form
abbrev pub spelling : List Part → List Value → List ℕ
spelling [] vs = []
spelling (word w ∷ ps) vs = w ++ spelling ps vs
spelling (field f ∷ ps) [] = []
spelling (field f ∷ ps) (v ∷ vs) = field_text f v ++ spelling ps vs

-- numbers as values, and the number of a value at an index
abbrev pub nums : List ℕ → List Value
nums [] = []
nums (v ∷ vs) = num v ∷ nums vs

abbrev pub num_of : Value → ℕ
num_of (num v) = v
num_of (name l) = 0

abbrev pub num_at : List Value → ℕ → ℕ
num_at [] i = 0
num_at (v ∷ vs) zero = num_of v
num_at (v ∷ vs) (suc i) = num_at vs i

-- the set of texts of a form
abbrev pub IsText : List Part → List ℕ → Type 0
IsText ps text = (vs : List Value) × Fits ps vs × (text ≡ spelling ps vs)

-- the set of texts of several forms
abbrev pub IsTextOfOne : List (List Part) → List ℕ → Type 0
IsTextOfOne [] text = ⊥
IsTextOfOne (ps ∷ forms) text = IsText ps text ⊎ IsTextOfOne forms text

-- some text of the set begins with these bytes
abbrev pub Begins : (List ℕ → Type 0) → List ℕ → Type 0
Begins S front = (rest : List ℕ) × S (front ++ rest)

-- the line is outside the set, and its longest prefix that is a prefix of a text of the set has this length
pub record Reaches (S : List ℕ → Type 0) (line : List ℕ) (reach : ℕ) : Type 0 where
  pub outside : S line → ⊥
  pub within : reach ≤ length line
  pub before : Begins S (take reach line)
  pub past : (n : ℕ) → reach < n → n ≤ length line → Begins S (take n line) → ⊥

-- the line is outside the set, and goes wrong at this column: one more than the length of that prefix
abbrev pub IsBadAt : (List ℕ → Type 0) → List ℕ → ℕ → Type 0
IsBadAt S line column = (1 ≤ column) × Reaches S line (column - 1)

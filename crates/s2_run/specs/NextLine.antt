-- For the parts of the commands: what the reading of the next line answers.
use Rattle.std.specs.Prelude.{ℕ, ◌≡◌, ◌+◌, ◌<◌, ◌≤◌, List, [], ◌∷◌, ◌++◌, take, drop, Some, Ok, Err}
use Rattle.std.specs.declared.option.Option.{Option}
use Rattle.std.specs.declared.result.Result.{Result}
use Rattle.s2_io.specs.declared.traits.Failed.{Failed}
use Rattle.s2_text.specs.declared.lines.TheConstants.{HELD_BYTES, LINE_FEED}
use Rattle.s2_text.specs.InputLines.{InputLine, IsPlain, lines_of}
use Rattle.s2_run.specs.declared.lines.LineRead.{LineRead}
use Rattle.s2_run.specs.declared.lines.LineRead.TheVariants.{Line, End, TooLong}

-- the first line of the input was read, of which so many bytes are held, and the rest is left
pub record HasLine (input : List ℕ) (size : ℕ) (held : List ℕ) (left : Option (List ℕ)) : Type 0 where
  pub text : List ℕ
  pub rest : List ℕ
  pub lines_are : lines_of input ≡ (record { text = text; size = size }) ∷ lines_of rest
  pub held_is : held ≡ take HELD_BYTES text
  pub left_is : left ≡ Some rest
  pub rest_is : rest ≡ drop size input

-- the first line of the input has more bytes than the room, and one more than that was read
pub record HasLongLine (input : List ℕ) (room : ℕ) (left : Option (List ℕ)) : Type 0 where
  pub line : InputLine
  pub more : List InputLine
  pub lines_are : lines_of input ≡ line ∷ more
  pub long : room < line.size
  pub left_is : left ≡ Some (drop (room + 1) input)

-- a front of the input was read, without a line feed
pub record HasFront (input : List ℕ) (room : ℕ) (left : Option (List ℕ)) : Type 0 where
  pub bytes : ℕ
  pub plain : IsPlain (take bytes input)
  pub within : bytes ≤ room
  pub left_is : left ≡ Some (drop bytes input)

-- what reading the next line of an input answers, where so many bytes may be read
abbrev pub ReadsNext : List ℕ → ℕ → Result LineRead Failed → List ℕ → Option (List ℕ) → Type 0
ReadsNext input room (Ok (Line size)) held left = HasLine input size held left
ReadsNext input room (Ok End) held left = (input ≡ []) × (left ≡ Some [])
ReadsNext input room (Ok TooLong) held left = HasLongLine input room left
ReadsNext input room (Err failed) held left = HasFront input room left

-- a line has a byte at least, and not more than the room
abbrev pub FitsRoom : ℕ → LineRead → Type 0
FitsRoom room (Line size) = (1 ≤ size) × (size ≤ room)
FitsRoom room End = Unit {0}
FitsRoom room TooLong = Unit {0}

-- the bytes of a line end with its line feed
abbrev pub EndsFed : List ℕ → LineRead → Type 0
EndsFed input (Line size) = (front : List ℕ) × (take size input ≡ front ++ LINE_FEED ∷ [])
EndsFed input End = Unit {0}
EndsFed input TooLong = Unit {0}

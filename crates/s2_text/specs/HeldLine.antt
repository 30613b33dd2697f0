-- A line that is taken a byte at a time.
use Rattle.std.specs.Prelude.{ℕ, List, [], ◌∷◌, ◌++◌, length, ◌==◌, nat_lt, ◌&&◌, not, if◌then◌else◌}
use Rattle.s2_text.specs.declared.lines.TheConstants.{LINE_FEED, HELD_BYTES}

-- what is held after one more byte: a line feed is no part of the line, and only so many bytes are held
abbrev pub held_after : List ℕ → ℕ → List ℕ
held_after held byte = if (not (byte == LINE_FEED) && nat_lt (length held) HELD_BYTES) then held ++ byte ∷ [] else held

-- The frame of a machine: how many run cycles go from one synchronisation to the next.
use Rattle.std.specs.Prelude.{ℕ, ◌≤◌, Bool, nat_lt}
use Rattle.s2_clock.specs.declared.numbers.TheConstants.{FRAME, SHORTEST_FRAME, LONGEST_FRAME}

-- the frames that a machine may be given
pub record IsFrame (frame : ℕ) : Type 0 where
  pub low : SHORTEST_FRAME ≤ frame
  pub high : frame ≤ LONGEST_FRAME

-- a frame is long where it is longer than that of a machine that is given none
abbrev pub is_long : ℕ → Bool
is_long frame = nat_lt FRAME frame

-- Idle turns, one after another.
use Rattle.std.specs.Prelude.{ℕ, zero, suc, ◌-◌, ◌^◌, Some, None}
use Rattle.std.specs.declared.option.Option.{Option}
use Rattle.s2_base.specs.declared.map.TheConstants.{GLOBAL_WORDS}
use Rattle.s2_revive.specs.MendingBoards.{MendingBoards, boards_idled}
use Rattle.s2_revive.specs.declared.revive.Mending.{Mending}

-- the boards after so many
unfoldable pub boards_idled_by : ℕ → MendingBoards → MendingBoards
boards_idled_by zero s = s
boards_idled_by (suc n) s = boards_idled (boards_idled_by n s)

-- how many words are still to copy to a board that mends, and without end where none mends
abbrev pub words_left : Option Mending → ℕ
words_left None = 2 ^ 64 - 1
words_left (Some m) = GLOBAL_WORDS - m.cursor

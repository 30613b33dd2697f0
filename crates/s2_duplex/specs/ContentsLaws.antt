-- What each call does to the contents of the boards, over plain data.
use Rattle.std.specs.Prelude.{ℕ, ◌≡◌, ◌<◌, List, length, slice_set}
use Rattle.s2_ports.specs.declared.events.BoardFault.{BoardFault}
use Rattle.s2_duplex.specs.DuplexBoards.{BoardPair, StandsFor, contents, new_boards, boards_read, boards_written}
use Rattle.s2_duplex.specs.ToleratedFaults.{IsFaultBelow, boards_faulted}

-- the boards stand for no other list than their contents
abbrev pub ContentsAreUnique : Type 0
ContentsAreUnique = (s : BoardPair) (list : List ℕ) → StandsFor s list → contents s ≡ list

-- new boards stand for the words that they were given
abbrev pub NewBoardsStand : Type 0
NewBoardsStand = (words : List ℕ) → StandsFor (new_boards words) words

-- a read leaves the list
abbrev pub ReadKeepsContents : Type 0
ReadKeepsContents = (s : BoardPair) (list : List ℕ) (i : ℕ) → i < length list → StandsFor s list → StandsFor (boards_read s i).boards list

-- a write sets one word of the list
abbrev pub WriteSetsOneWord : Type 0
WriteSetsOneWord = (s : BoardPair) (list : List ℕ) (i word : ℕ) → i < length list → StandsFor s list → StandsFor (boards_written s i word) (slice_set list i word)

-- a fault leaves the list, be it tolerated or not
abbrev pub FaultKeepsContents : Type 0
FaultKeepsContents = (s : BoardPair) (list : List ℕ) (fault : BoardFault) → IsFaultBelow (length list) fault → StandsFor s list → StandsFor (boards_faulted s fault) list

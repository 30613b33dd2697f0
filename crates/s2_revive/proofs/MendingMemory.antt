-- What each call does to the boards and to the list that they stand for, while a board mends or none does.
use Rattle.std.proofs.Common.{◌≡◌, ℕ, ◌<◌, ◌≤◌, List, length, refl, sym, ap, subst, inl, inr, ◌∙◌, arith}
use Rattle.std.specs.Prelude.{Bool, true, false, ◌&&◌, ◌||◌, ◌==◌, nat_lt, Some, None, slice_set, if◌then◌else◌}
use Rattle.std.specs.declared.option.Option.{Option}
use Rattle.std.proofs.lemmas.Bool.Decides.{nat_tests}
use Rattle.s2_base.specs.declared.map.TheConstants.{GLOBAL_WORDS}
use Rattle.s2_ports.specs.declared.events.BoardFault.{BoardFault}
use Rattle.s2_ports.specs.declared.events.BoardFault.TheVariants.{Dead, Flip}
use Rattle.s2_duplex.specs.DuplexBoards.{BoardState, BoardPair, BoardRead, IsDuplex, board_word, has_parity, is_valid, contents, valid_word, with_word, repaired_by, boards_read, boards_written}
use Rattle.s2_duplex.specs.MendedBoards.{board_out, board_of, with_board, boards_copied, boards_joined}
use Rattle.s2_duplex.specs.ToleratedFaults.{IsFaultBelow, other_board, has_all_parity, is_tolerated, boards_struck, boards_faulted}
use Rattle.s2_duplex.proofs.DuplexInvariant.{length_is, new_duplex, new_contents, read_duplex, read_contents, written_duplex, written_contents, written_valid, struck_duplex, struck_contents}
use Rattle.s2_duplex.proofs.MendedBoards.{out_of, copied_duplex, copied_contents, copied_word, joined_duplex, joined_contents}
use Rattle.s2_revive.specs.declared.revive.Mending.{Mending}
use Rattle.s2_revive.specs.MendingBoards.{MendingBoards, IsMending, IsMendingIn, AreMendingBoards, memory_of, new_mending, is_out_board, begins_in, mending_begins, mending_begun, has_more, copied_more, idled_in, boards_idled, mending_read, also_written_if, also_written, mending_written}
use Rattle.s2_revive.specs.MendingFaults.{ends_mending, is_fault_tolerated, struck_if, mending_struck}
use Rattle.s2_revive.proofs.MendedWords.{out_bits, out_stays, copied_mending, copied_last, written_out, written_mending, recopied_mending}

-- ---- new boards

pub new_keeps : (words : List ℕ) → length words ≡ GLOBAL_WORDS → AreMendingBoards (new_mending words)
new_keeps words size = record { duplex = new_duplex words size; mending = tt }

pub new_memory : (words : List ℕ) → memory_of (new_mending words) ≡ words
new_memory words = new_contents words

clash : (b : Bool) → b ≡ true → b ≡ false → ⊥
clash b x y = cc

-- ---- a board that mends is out

one_out : (x y : Bool) (b : ℕ) → out_bits x y ≡ Some b → (x && y) ≡ false
one_out true true b h = absurd cc
one_out true false b h = refl
one_out false y b h = refl

not_both : (s : BoardPair) (b : ℕ) → board_out s ≡ Some b → (s.first.is_in && s.second.is_in) ≡ false
not_both s b out = one_out s.first.is_in s.second.is_in b out

-- ---- a read

pub unread : (s : BoardPair) (b i : ℕ) → board_out s ≡ Some b → boards_read s i ≡ record { boards = s; repaired = None }
unread s b i out =
    ap (λ (t : Bool). let r : BoardRead = if t then repaired_by (has_parity s.first i) (has_parity s.second i) s i else record { boards = s; repaired = None } in r) (not_both s b out)

pub read_mending : (s : BoardPair) (o : Option Mending) (i : ℕ) → IsMendingIn s o → IsMendingIn (boards_read s i).boards o
read_mending s None i ok = tt
read_mending s (Some m) i ok = subst (λ (t : BoardPair). IsMending t m) (sym (ap (λ (r : BoardRead). r.boards) (unread s m.board i ok.out))) ok

pub read_keeps : (s : MendingBoards) (i : ℕ) → i < GLOBAL_WORDS → AreMendingBoards s → AreMendingBoards (mending_read s i).boards
read_keeps s i h d = record { duplex = read_duplex s.pair i h d.duplex; mending = read_mending s.pair s.mending i d.mending }

pub read_memory : (s : MendingBoards) (i : ℕ) → i < GLOBAL_WORDS → AreMendingBoards s → memory_of (mending_read s i).boards ≡ memory_of s
read_memory s i h d = read_contents s.pair i h d.duplex

-- ---- a write

record Written (s : BoardPair) (o : Option Mending) (i w : ℕ) (u : BoardPair) : Type 0 where
  duplex : IsDuplex u
  mending : IsMendingIn u o
  contents : contents u ≡ slice_set (contents s) i w

module _ (s : BoardPair) (m : Mending) (i w : ℕ) (h : i < GLOBAL_WORDS) (d : IsDuplex s) (ok : IsMending s m) where
  abbrev after : BoardPair
  after = boards_written s i w

  kept : IsDuplex after
  kept = written_duplex s i w h d

  changed : contents after ≡ slice_set (contents s) i w
  changed = written_contents s i w h d

  out : board_out after ≡ Some m.board
  out = written_out s after m ok i w w refl changed

  copied_is : with_board m.board (with_word (board_of m.board after) i w) after ≡ boards_copied m.board i after
  copied_is = ap (λ (v : ℕ). with_board m.board (with_word (board_of m.board after) i v) after) (sym (written_valid s i w h d))

  same : contents (with_board m.board (with_word (board_of m.board after) i w) after) ≡ contents after
  same = ap contents copied_is ∙ copied_contents after m.board i out kept

  written_above : m.cursor ≤ i → Written s (Some m) i w after
  written_above above = record { duplex = kept; mending = written_mending s after m ok i w w refl changed above; contents = changed }

  written_below : Written s (Some m) i w (with_board m.board (with_word (board_of m.board after) i w) after)
  written_below =
      let word = copied_word after m.board i h kept in
      record {
        duplex = subst IsDuplex (sym copied_is) (copied_duplex after m.board i out kept);
        mending = recopied_mending s after m ok i w w refl changed (with_board m.board (with_word (board_of m.board after) i w) after) copied_is same
            (ap (λ (t : BoardPair). board_word (board_of m.board t) i) copied_is ∙ word.0) (ap (λ (t : BoardPair). has_parity (board_of m.board t) i) copied_is ∙ word.1);
        contents = same ∙ changed;
      }

  written_by : (b : Bool) → nat_lt i m.cursor ≡ b → Written s (Some m) i w (also_written_if b m.board after i w)
  written_by true is = written_below
  written_by false is = written_above (grind (arith, nat_tests))

written_in : (s : BoardPair) (o : Option Mending) (i w : ℕ) → i < GLOBAL_WORDS → IsDuplex s → IsMendingIn s o → Written s o i w (also_written o (boards_written s i w) i w)
written_in s None i w h d ok = record { duplex = written_duplex s i w h d; mending = tt; contents = written_contents s i w h d }
written_in s (Some m) i w h d ok = written_by s m i w h d ok (nat_lt i m.cursor) refl

pub write_keeps : (s : MendingBoards) (i w : ℕ) → i < GLOBAL_WORDS → AreMendingBoards s → AreMendingBoards (mending_written s i w)
write_keeps s i w h d = let x = written_in s.pair s.mending i w h d.duplex d.mending in record { duplex = x.duplex; mending = x.mending }

pub write_memory : (s : MendingBoards) (i w : ℕ) → i < GLOBAL_WORDS → AreMendingBoards s → memory_of (mending_written s i w) ≡ slice_set (memory_of s) i w
write_memory s i w h d = (written_in s.pair s.mending i w h d.duplex d.mending).contents

-- ---- an idle turn

record Idled (s : BoardPair) (t : MendingBoards) : Type 0 where
  boards : AreMendingBoards t
  memory : memory_of t ≡ contents s

idled_by : (s : BoardPair) (m : Mending) → IsDuplex s → IsMending s m → (b : Bool) → has_more m ≡ b → Idled s (copied_more s m b)
idled_by s m d ok true is =
    let word = copied_word s m.board m.cursor ok.below d in
    let same = copied_contents s m.board m.cursor ok.out d in
    record {
      boards = record { duplex = copied_duplex s m.board m.cursor ok.out d; mending = copied_mending s (boards_copied m.board m.cursor s) m ok refl same word.0 word.1 (grind (arith, nat_tests)) };
      memory = same;
    }
idled_by s m d ok false is =
    let t = boards_copied m.board m.cursor s in
    let word = copied_word s m.board m.cursor ok.below d in
    let same = copied_contents s m.board m.cursor ok.out d in
    let kept = copied_duplex s m.board m.cursor ok.out d in
    let out = out_stays (m.board == 0) s m.cursor (valid_word s m.cursor) ∙ ok.out in
    let mended = copied_last s t m ok refl same word.0 word.1 (grind (arith, nat_tests)) in
    record {
      boards = record { duplex = joined_duplex t m.board out mended kept; mending = tt };
      memory = joined_contents t m.board out mended kept ∙ same;
    }

idled : (s : BoardPair) (o : Option Mending) → IsDuplex s → IsMendingIn s o → Idled s (idled_in s o)
idled s None d ok = record { boards = record { duplex = d; mending = tt }; memory = refl }
idled s (Some m) d ok = idled_by s m d ok (has_more m) refl

pub idle_keeps : (s : MendingBoards) → AreMendingBoards s → AreMendingBoards (boards_idled s)
idle_keeps s d = (idled s.pair s.mending d.duplex d.mending).boards

pub idle_memory : (s : MendingBoards) → AreMendingBoards s → memory_of (boards_idled s) ≡ memory_of s
idle_memory s d = (idled s.pair s.mending d.duplex d.mending).memory

-- the last word brings the board in
in_of_valid : (b : BoardState) (i : ℕ) → is_valid b i ≡ true → b.is_in ≡ true
in_of_valid b i v = by_in b.is_in (has_parity b i) v
  where
    by_in : (x y : Bool) → (x && y) ≡ true → x ≡ true
    by_in true y h = refl
    by_in false y h = absurd cc

pub out_not_valid : (b : BoardState) (i : ℕ) → b.is_in ≡ false → is_valid b i ≡ true → ⊥
out_not_valid b i out v = clash b.is_in (in_of_valid b i v) out

pub joined_out : (s : BoardPair) (b i : ℕ) → board_out s ≡ Some b → IsDuplex s → board_out (boards_joined b (boards_copied b i s)) ≡ None
joined_out s b i out d =
    let low : 0 < length (contents s) = let size = length_is s d in omega arith in
    elim (out_of s.first.is_in s.second.is_in b out) [
      | inl h ↦ elim (d.stands.some 0 low) [
        | inl v ↦ absurd (out_not_valid s.first 0 h.1 v)
        | inr v ↦ subst (λ (n : ℕ). board_out (boards_joined n (boards_copied n i s)) ≡ None) (sym h.0) (ap (λ (x : Bool). out_bits true x) (in_of_valid s.second 0 v))
      ]
      | inr h ↦ elim (d.stands.some 0 low) [
        | inl v ↦ subst (λ (n : ℕ). board_out (boards_joined n (boards_copied n i s)) ≡ None) (sym h.0) (ap (λ (x : Bool). out_bits x true) (in_of_valid s.first 0 v))
        | inr v ↦ absurd (out_not_valid s.second 0 h.1 v)
      ]
    ]

-- ---- a mending begins

out_is : (b : ℕ) (x : Option ℕ) → is_out_board b x ≡ true → x ≡ Some b
out_is b None h = absurd cc
out_is b (Some out) h = let same : out ≡ b = grind (arith, nat_tests) in ap (λ (n : ℕ). Some n) same

pub begins_out : (b : ℕ) (s : BoardPair) (o : Option Mending) → begins_in b s o ≡ true → board_out s ≡ Some b
begins_out b s None h = out_is b (board_out s) h
begins_out b s (Some m) h = absurd cc

none_below : (s : BoardPair) (b : ℕ) → board_out s ≡ Some b → IsMending s (record { board = b; cursor = 0 })
none_below s b out = record { out = out; below = omega arith; words = λ i low. absurd (omega arith) }

pub begun_mending : (s : BoardPair) (b : ℕ) → board_out s ≡ Some b → IsMendingIn s (Some (record { board = b; cursor = 0 }))
begun_mending s b out = none_below s b out

pub begun_keeps : (b : ℕ) (s : MendingBoards) → AreMendingBoards s → AreMendingBoards (mending_begun b s)
begun_keeps b s d = by_test (mending_begins b s) refl
  where
    by_test : (t : Bool) → mending_begins b s ≡ t → AreMendingBoards (if t then record s { mending = Some (record { board = b; cursor = 0 }) } else s)
    by_test true is = record { duplex = d.duplex; mending = none_below s.pair b (begins_out b s.pair s.mending is) }
    by_test false is = d

pub begun_memory : (b : ℕ) (s : MendingBoards) → memory_of (mending_begun b s) ≡ memory_of s
begun_memory b s = by_test (mending_begins b s)
  where
    by_test : (t : Bool) → memory_of (if t then record s { mending = Some (record { board = b; cursor = 0 }) } else s) ≡ memory_of s
    by_test true = refl
    by_test false = refl

-- ---- a fault

pub not_tolerated : (s : BoardPair) (b : ℕ) (fault : BoardFault) → board_out s ≡ Some b → is_tolerated s fault ≡ false
not_tolerated s b (Dead board) out = ap (λ (t : Bool). t && has_all_parity (other_board board s)) (not_both s b out)
not_tolerated s b (Flip board index bit) out = ap (λ (t : Bool). t && (has_parity s.first index && has_parity s.second index)) (not_both s b out)

pub faulted_mending : (s : BoardPair) (o : Option Mending) (fault : BoardFault) → IsMendingIn s o → IsMendingIn (boards_faulted s fault) o
faulted_mending s None fault ok = tt
faulted_mending s (Some m) fault ok = subst (λ (t : BoardPair). IsMending t m) (sym (ap (λ (t : Bool). if t then boards_struck s fault else s) (not_tolerated s m.board fault ok.out))) ok

struck_mending : (s : BoardPair) (o : Option Mending) (fault : BoardFault) → is_tolerated s fault ≡ true → IsMendingIn s o → IsMendingIn (boards_struck s fault) o
struck_mending s None fault tolerated ok = tt
struck_mending s (Some m) fault tolerated ok = absurd (clash (is_tolerated s fault) tolerated (not_tolerated s m.board fault ok.out))

record Struck (s t : MendingBoards) : Type 0 where
  boards : AreMendingBoards t
  memory : memory_of t ≡ memory_of s

struck : (s : MendingBoards) (fault : BoardFault) → IsFaultBelow GLOBAL_WORDS fault → is_fault_tolerated s fault ≡ true → AreMendingBoards s → Struck s (mending_struck s fault)
struck s fault below tolerated d = by_end (ends_mending s.mending fault) tolerated
  where
    by_end : (b : Bool) → (b || is_tolerated s.pair fault) ≡ true → Struck s (struck_if b s fault)
    by_end true h = record { boards = record { duplex = d.duplex; mending = tt }; memory = refl }
    by_end false h = record {
      boards = record { duplex = struck_duplex s.pair fault below h d.duplex; mending = struck_mending s.pair s.mending fault h d.mending };
      memory = struck_contents s.pair fault below h d.duplex;
    }

pub struck_keeps : (s : MendingBoards) (fault : BoardFault) → IsFaultBelow GLOBAL_WORDS fault → is_fault_tolerated s fault ≡ true → AreMendingBoards s → AreMendingBoards (mending_struck s fault)
struck_keeps s fault below tolerated d = (struck s fault below tolerated d).boards

pub struck_memory : (s : MendingBoards) (fault : BoardFault) → IsFaultBelow GLOBAL_WORDS fault → is_fault_tolerated s fault ≡ true → AreMendingBoards s → memory_of (mending_struck s fault) ≡ memory_of s
struck_memory s fault below tolerated d = (struck s fault below tolerated d).memory

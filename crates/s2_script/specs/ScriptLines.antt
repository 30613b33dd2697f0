-- The lines of a script: a row for each kind of line, and the row of each entry. A new kind of line is a new row here.
use Rattle.std.specs.Prelude.{ℕ, ◌-◌, ◌^◌, List, [], ◌∷◌, codes, ◌==◌, if◌then◌else◌}
use Rattle.s2_base.specs.declared.map.TheConstants.{LOCAL_WORDS, GLOBAL_WORDS}
use Rattle.s2_ports.specs.declared.requests.Kind.{Kind}
use Rattle.s2_ports.specs.declared.requests.Kind.TheVariants.{Load, Store, Sync}
use Rattle.s2_ports.specs.declared.requests.Posted.{Posted}
use Rattle.s2_ports.specs.declared.events.Event.TheVariants.{Tick, Key, Private}
use Rattle.s2_ports.specs.declared.events.BoardFault.TheVariants.{Dead, Flip}
use Rattle.s2_text.specs.LineGrammar.{number, hex, letter, Part, word, field, space, Fits, spelling, nums, num_at}
use Rattle.s2_text.specs.LineTables.{LineRow}
use Rattle.s2_script.specs.declared.entry.Act.TheVariants.{Event as Happens, Poke, PokeLocal, Drive, Mute, Remove, Revive, Board, Mend}
use Rattle.s2_script.specs.declared.entry.Entry.{Entry}
use Rattle.s2_script.specs.declared.entry.Entry.TheVariants.{Ticks, One}
use Rattle.s2_script.specs.declared.ranges.TheConstants.{PROCESSORS, BOARDS, SAVED_WORDS, TICK_MASKS, BYTE_MASKS, WORD_BITS}

-- ---- fields

abbrev pub processor : Part
processor = field (number 0 (PROCESSORS - 1))

abbrev pub board : Part
board = field (number 0 (BOARDS - 1))

-- eight digits
abbrev pub word_value : Part
word_value = field (hex 8)

-- a number of 64 bits
abbrev pub long : Part
long = field (number 0 (2 ^ 64 - 1))

-- the letter of a kind of request: `l`, `s` or `y`
abbrev pub kind_letters : List ℕ
kind_letters = codes "lsy"

abbrev pub letter_of : Kind → ℕ
letter_of Load = 108
letter_of Store = 115
letter_of Sync = 121

abbrev pub kind_of : ℕ → Kind
kind_of b = if b == 108 then Load else (if b == 115 then Store else Sync)

-- ---- the table: a form, and what the numbers of its fields say

-- t M N
abbrev pub ticks_row : LineRow Entry
ticks_row = record {
  form = word (codes "t ") ∷ field (number 0 (TICK_MASKS - 1)) ∷ space ∷ field (number 1 (2 ^ 64 - 1)) ∷ [];
  says = λ v. Ticks (num_at v 0) (num_at v 1);
}

-- tick
abbrev pub tick_row : LineRow Entry
tick_row = record { form = word (codes "tick") ∷ []; says = λ v. One (Happens Tick) }

-- key HH
abbrev pub key_row : LineRow Entry
key_row = record { form = word (codes "key ") ∷ field (hex 2) ∷ []; says = λ v. One (Happens (Key (num_at v 0))) }

-- poke P K V
abbrev pub poke_row : LineRow Entry
poke_row = record {
  form = word (codes "poke ") ∷ processor ∷ space ∷ field (number 0 (SAVED_WORDS - 1)) ∷ space ∷ word_value ∷ [];
  says = λ v. One (Poke (num_at v 0) (num_at v 1) (num_at v 2));
}

-- local P I V
abbrev pub local_row : LineRow Entry
local_row = record {
  form = word (codes "local ") ∷ processor ∷ space ∷ field (number 0 (LOCAL_WORDS - 1)) ∷ space ∷ word_value ∷ [];
  says = λ v. One (PokeLocal (num_at v 0) (num_at v 1) (num_at v 2));
}

-- the request in a line `drive`, of the numbers behind the processor
abbrev pub posted_of : ℕ → ℕ → ℕ → ℕ → ℕ → ℕ → Posted
posted_of kind address stored mask run seen =
    record { request = record { kind = kind_of kind; address = address; word = stored; mask = mask; run = run }; seen = seen }

-- drive P T A D M RUN SEEN
abbrev pub drive_row : LineRow Entry
drive_row = record {
  form = word (codes "drive ") ∷ processor ∷ space ∷ field (letter kind_letters) ∷ space ∷ word_value ∷ space ∷ word_value
      ∷ space ∷ field (number 0 (BYTE_MASKS - 1)) ∷ space ∷ long ∷ space ∷ long ∷ [];
  says = λ v. One (Drive (num_at v 0) (posted_of (num_at v 1) (num_at v 2) (num_at v 3) (num_at v 4) (num_at v 5) (num_at v 6)));
}

-- mute P
abbrev pub mute_row : LineRow Entry
mute_row = record { form = word (codes "mute ") ∷ processor ∷ []; says = λ v. One (Mute (num_at v 0)) }

-- remove P
abbrev pub remove_row : LineRow Entry
remove_row = record { form = word (codes "remove ") ∷ processor ∷ []; says = λ v. One (Remove (num_at v 0)) }

-- revive P
abbrev pub revive_row : LineRow Entry
revive_row = record { form = word (codes "revive ") ∷ processor ∷ []; says = λ v. One (Revive (num_at v 0)) }

-- dead B
abbrev pub dead_row : LineRow Entry
dead_row = record { form = word (codes "dead ") ∷ board ∷ []; says = λ v. One (Board (Dead (num_at v 0))) }

-- flip B I BIT
abbrev pub flip_row : LineRow Entry
flip_row = record {
  form = word (codes "flip ") ∷ board ∷ space ∷ field (number 0 (GLOBAL_WORDS - 1)) ∷ space ∷ field (number 0 (WORD_BITS - 1)) ∷ [];
  says = λ v. One (Board (Flip (num_at v 0) (num_at v 1) (num_at v 2)));
}

-- mend B
abbrev pub mend_row : LineRow Entry
mend_row = record { form = word (codes "mend ") ∷ board ∷ []; says = λ v. One (Mend (num_at v 0)) }

abbrev pub script_rows : List (LineRow Entry)
script_rows =
    ticks_row ∷ tick_row ∷ key_row ∷ poke_row ∷ local_row ∷ drive_row ∷ mute_row ∷ remove_row ∷ revive_row ∷ dead_row
    ∷ flip_row ∷ mend_row ∷ []

-- ---- the one line of an entry

-- its form
abbrev pub form_of : Entry → List Part
form_of (Ticks m n) = ticks_row.form
form_of (One (Happens Tick)) = tick_row.form
form_of (One (Happens (Key b))) = key_row.form
form_of (One (Happens (Private a b c))) = tick_row.form
form_of (One (Poke p k v)) = poke_row.form
form_of (One (PokeLocal p i v)) = local_row.form
form_of (One (Drive p posted)) = drive_row.form
form_of (One (Mute p)) = mute_row.form
form_of (One (Remove p)) = remove_row.form
form_of (One (Revive p)) = revive_row.form
form_of (One (Board (Dead b))) = dead_row.form
form_of (One (Board (Flip b i bit))) = flip_row.form
form_of (One (Mend b)) = mend_row.form

-- the numbers in it
abbrev pub numbers_of : Entry → List ℕ
numbers_of (Ticks m n) = m ∷ n ∷ []
numbers_of (One (Happens Tick)) = []
numbers_of (One (Happens (Key b))) = b ∷ []
numbers_of (One (Happens (Private a b c))) = a ∷ b ∷ c ∷ []
numbers_of (One (Poke p k v)) = p ∷ k ∷ v ∷ []
numbers_of (One (PokeLocal p i v)) = p ∷ i ∷ v ∷ []
numbers_of (One (Drive p posted)) =
    p ∷ letter_of posted.request.kind ∷ posted.request.address ∷ posted.request.word ∷ posted.request.mask ∷ posted.request.run ∷ posted.seen ∷ []
numbers_of (One (Mute p)) = p ∷ []
numbers_of (One (Remove p)) = p ∷ []
numbers_of (One (Revive p)) = p ∷ []
numbers_of (One (Board (Dead b))) = b ∷ []
numbers_of (One (Board (Flip b i bit))) = b ∷ i ∷ bit ∷ []
numbers_of (One (Mend b)) = b ∷ []

-- each number of the entry is in the range of its field. Private values come from the machine alone: no line has
-- place for them.
abbrev pub IsProperEntry : Entry → Type 0
IsProperEntry e = Fits (form_of e) (nums (numbers_of e))

-- its text
abbrev pub entry_text : Entry → List ℕ
entry_text e = spelling (form_of e) (nums (numbers_of e))

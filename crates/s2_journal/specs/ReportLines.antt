-- The lines of a report: a row for each kind of line, and the one line of each note, count and end. A new kind is a new row here.
use Rattle.std.specs.Prelude.{ℕ, ◌-◌, Bool, true, false, List, [], ◌∷◌, ◌++◌, codes}
use Rattle.s2_base.specs.declared.map.TheConstants.{GLOBAL_WORDS}
use Rattle.s2_ports.specs.declared.events.Event.TheVariants.{Tick, Key, Private}
use Rattle.s2_ports.specs.declared.events.TheConstants.{NO_VALUE}
use Rattle.s2_ports.specs.Events.{IsEventInRange}
use Rattle.s2_text.specs.LineGrammar.{number, hex, Part, word, field, space, Fits, spelling, nums, num_at}
use Rattle.s2_text.specs.LineTables.{LineRow}
use Rattle.s2_script.specs.ScriptLines.{processor, board, word_value, long}
use Rattle.s2_journal.specs.declared.note.Why.{Why}
use Rattle.s2_journal.specs.declared.note.Why.TheVariants.{Differ, Late, Removed}
use Rattle.s2_journal.specs.declared.note.Note.{Note}
use Rattle.s2_journal.specs.declared.note.Note.TheVariants.{Delivered, Out, Lost, Repaired, BoardDead, Mend, Mended, Join, Joined}
use Rattle.s2_journal.specs.declared.note.Reason.TheVariants.{Second, Slow, BothBoards}
use Rattle.s2_journal.specs.declared.note.End.{End}
use Rattle.s2_journal.specs.declared.note.End.TheVariants.{Script, Halt, Bad, Outside, TooLong, Report}
use Rattle.s2_journal.specs.declared.note.Count.{Count}
use Rattle.s2_journal.specs.declared.note.Count.TheVariants.{Runs as RunsCount, Ticks as TicksCount, Bytes as BytesCount}
use Rattle.s2_journal.specs.declared.note.ReportLine.{ReportLine}
use Rattle.s2_journal.specs.declared.note.ReportLine.TheVariants.{Delivery, Other, Runs, Ticks, Bytes, End as Ending}
use Rattle.s2_journal.specs.declared.ranges.TheConstants.{GREATEST_COUNT, GREATEST_MISSES}

-- ---- fields

-- a run count, a tick or a number of cycles
abbrev pub count : Part
count = field (number 0 GREATEST_COUNT)

-- ---- the table: a form, and what the reader keeps of the line

-- a line of which the reader keeps nothing but that it is a note
abbrev pub note_row : List Part → LineRow ReportLine
note_row form = record { form = form; says = λ v. Other }

-- an end line
abbrev pub end_row : List Part → LineRow ReportLine
end_row form = record { form = form; says = λ v. Ending }

-- d RUN tick
abbrev pub delivered_tick_row : LineRow ReportLine
delivered_tick_row = record { form = word (codes "d ") ∷ count ∷ word (codes " tick") ∷ []; says = λ v. Delivery (num_at v 0) Tick }

-- d RUN key HH
abbrev pub delivered_key_row : LineRow ReportLine
delivered_key_row = record {
  form = word (codes "d ") ∷ count ∷ word (codes " key ") ∷ field (hex 2) ∷ [];
  says = λ v. Delivery (num_at v 0) (Key (num_at v 1));
}

-- d RUN private A B C
abbrev pub slot_value : Part
slot_value = field (number 0 NO_VALUE)

abbrev pub delivered_private_row : LineRow ReportLine
delivered_private_row = record {
  form = word (codes "d ") ∷ count ∷ word (codes " private ") ∷ slot_value ∷ space ∷ slot_value ∷ space ∷ slot_value ∷ [];
  says = λ v. Delivery (num_at v 0) (Private (num_at v 1) (num_at v 2) (num_at v 3));
}

-- out TICK P differ, out TICK P late, out TICK P removed
abbrev pub out_row : List ℕ → LineRow ReportLine
out_row why = note_row (word (codes "out ") ∷ count ∷ space ∷ processor ∷ space ∷ word why ∷ [])

-- lost TICK tick
abbrev pub lost_tick_row : LineRow ReportLine
lost_tick_row = note_row (word (codes "lost ") ∷ count ∷ word (codes " tick") ∷ [])

-- lost TICK key HH
abbrev pub lost_key_row : LineRow ReportLine
lost_key_row = note_row (word (codes "lost ") ∷ count ∷ word (codes " key ") ∷ field (hex 2) ∷ [])

-- repair TICK B INDEX
abbrev pub repair_row : LineRow ReportLine
repair_row = note_row (word (codes "repair ") ∷ count ∷ space ∷ board ∷ space ∷ field (number 0 (GLOBAL_WORDS - 1)) ∷ [])

-- board TICK B
abbrev pub board_row : LineRow ReportLine
board_row = note_row (word (codes "board ") ∷ count ∷ space ∷ board ∷ [])

-- mend TICK B
abbrev pub mend_row : LineRow ReportLine
mend_row = note_row (word (codes "mend ") ∷ count ∷ space ∷ board ∷ [])

-- mended TICK B
abbrev pub mended_row : LineRow ReportLine
mended_row = note_row (word (codes "mended ") ∷ count ∷ space ∷ board ∷ [])

-- join TICK P
abbrev pub join_row : LineRow ReportLine
join_row = note_row (word (codes "join ") ∷ count ∷ space ∷ processor ∷ [])

-- joined TICK P good, joined TICK P tainted
abbrev pub joined_row : List ℕ → LineRow ReportLine
joined_row how = note_row (word (codes "joined ") ∷ count ∷ space ∷ processor ∷ space ∷ word how ∷ [])

-- runs N
abbrev pub runs_row : LineRow ReportLine
runs_row = record { form = word (codes "runs ") ∷ count ∷ []; says = λ v. Runs (num_at v 0) }

-- ticks N
abbrev pub tick_count_row : LineRow ReportLine
tick_count_row = record { form = word (codes "ticks ") ∷ count ∷ []; says = λ v. Ticks }

-- bytes N
abbrev pub bytes_row : LineRow ReportLine
bytes_row = record { form = word (codes "bytes ") ∷ long ∷ []; says = λ v. Bytes }

-- end script
abbrev pub end_script_row : LineRow ReportLine
end_script_row = end_row (word (codes "end script") ∷ [])

-- end halt V
abbrev pub end_halt_row : LineRow ReportLine
end_halt_row = end_row (word (codes "end halt ") ∷ word_value ∷ [])

-- end bad LINE COLUMN
abbrev pub end_bad_row : LineRow ReportLine
end_bad_row = end_row (word (codes "end bad ") ∷ long ∷ space ∷ long ∷ [])

-- end outside LINE second T P
abbrev pub end_second_row : LineRow ReportLine
end_second_row = end_row (word (codes "end outside ") ∷ long ∷ word (codes " second ") ∷ processor ∷ space ∷ processor ∷ [])

-- end outside LINE slow P MISSES
abbrev pub end_slow_row : LineRow ReportLine
end_slow_row = end_row (word (codes "end outside ") ∷ long ∷ word (codes " slow ") ∷ processor ∷ space ∷ field (number 0 GREATEST_MISSES) ∷ [])

-- end outside LINE board B
abbrev pub end_board_row : LineRow ReportLine
end_board_row = end_row (word (codes "end outside ") ∷ long ∷ word (codes " board ") ∷ board ∷ [])

-- end toolong LINE
abbrev pub end_too_long_row : LineRow ReportLine
end_too_long_row = end_row (word (codes "end toolong ") ∷ long ∷ [])

-- end report
abbrev pub end_report_row : LineRow ReportLine
end_report_row = end_row (word (codes "end report") ∷ [])

-- lines of notes
abbrev pub note_rows : List (LineRow ReportLine)
note_rows =
    delivered_tick_row ∷ delivered_key_row ∷ out_row (codes "differ") ∷ out_row (codes "late") ∷ out_row (codes "removed")
    ∷ lost_tick_row ∷ lost_key_row ∷ repair_row ∷ board_row ∷ join_row ∷ joined_row (codes "good") ∷ joined_row (codes "tainted")
    ∷ mend_row ∷ mended_row ∷ delivered_private_row ∷ []

-- lines of counts
abbrev pub count_rows : List (LineRow ReportLine)
count_rows = runs_row ∷ tick_count_row ∷ bytes_row ∷ []

-- end lines
abbrev pub end_rows : List (LineRow ReportLine)
end_rows =
    end_script_row ∷ end_halt_row ∷ end_bad_row ∷ end_second_row ∷ end_slow_row ∷ end_board_row ∷ end_too_long_row
    ∷ end_report_row ∷ []

abbrev pub report_rows : List (LineRow ReportLine)
report_rows = note_rows ++ count_rows ++ end_rows

-- the numbers that a reader keeps of a line are in the ranges of its event
abbrev pub IsLineInRange : ReportLine → Type 0
IsLineInRange (Delivery run event) = IsEventInRange event
IsLineInRange Other = Unit {0}
IsLineInRange (Runs n) = Unit {0}
IsLineInRange Ticks = Unit {0}
IsLineInRange Bytes = Unit {0}
IsLineInRange Ending = Unit {0}

-- ---- the one line of a note

abbrev pub why_word : Why → List ℕ
why_word Differ = codes "differ"
why_word Late = codes "late"
why_word Removed = codes "removed"

abbrev pub joined_word : Bool → List ℕ
joined_word true = codes "good"
joined_word false = codes "tainted"

-- its form; private values come from the machine and are never lost, so that no line has place for them
abbrev pub note_form : Note → List Part
note_form (Delivered run Tick) = delivered_tick_row.form
note_form (Delivered run (Key b)) = delivered_key_row.form
note_form (Delivered run (Private a b c)) = delivered_private_row.form
note_form (Out tick p why) = (out_row (why_word why)).form
note_form (Lost tick Tick) = lost_tick_row.form
note_form (Lost tick (Key b)) = lost_key_row.form
note_form (Lost tick (Private a b c)) = lost_tick_row.form
note_form (Repaired tick b index) = repair_row.form
note_form (BoardDead tick b) = board_row.form
note_form (Mend tick b) = mend_row.form
note_form (Mended tick b) = mended_row.form
note_form (Join tick p) = join_row.form
note_form (Joined tick p good) = (joined_row (joined_word good)).form

-- the numbers in it
abbrev pub note_numbers : Note → List ℕ
note_numbers (Delivered run Tick) = run ∷ []
note_numbers (Delivered run (Key b)) = run ∷ b ∷ []
note_numbers (Delivered run (Private a b c)) = run ∷ a ∷ b ∷ c ∷ []
note_numbers (Out tick p why) = tick ∷ p ∷ []
note_numbers (Lost tick Tick) = tick ∷ []
note_numbers (Lost tick (Key b)) = tick ∷ b ∷ []
note_numbers (Lost tick (Private a b c)) = tick ∷ a ∷ b ∷ c ∷ []
note_numbers (Repaired tick b index) = tick ∷ b ∷ index ∷ []
note_numbers (BoardDead tick b) = tick ∷ b ∷ []
note_numbers (Mend tick b) = tick ∷ b ∷ []
note_numbers (Mended tick b) = tick ∷ b ∷ []
note_numbers (Join tick p) = tick ∷ p ∷ []
note_numbers (Joined tick p good) = tick ∷ p ∷ []

-- its text
abbrev pub note_text : Note → List ℕ
note_text note = spelling (note_form note) (nums (note_numbers note))

-- its numbers are in the ranges of a reader
abbrev pub IsReadableNote : Note → Type 0
IsReadableNote note = Fits (note_form note) (nums (note_numbers note))

-- what a reader keeps of it
abbrev pub note_answer : Note → ReportLine
note_answer (Delivered run event) = Delivery run event
note_answer (Out tick p why) = Other
note_answer (Lost tick event) = Other
note_answer (Repaired tick b index) = Other
note_answer (BoardDead tick b) = Other
note_answer (Mend tick b) = Other
note_answer (Mended tick b) = Other
note_answer (Join tick p) = Other
note_answer (Joined tick p good) = Other

-- ---- the one line of a count

-- its form
abbrev pub count_form : Count → List Part
count_form RunsCount = runs_row.form
count_form TicksCount = tick_count_row.form
count_form BytesCount = bytes_row.form

-- its text
abbrev pub count_text : Count → ℕ → List ℕ
count_text name n = spelling (count_form name) (nums (n ∷ []))

-- its number is in the range of a reader
abbrev pub IsReadableCount : Count → ℕ → Type 0
IsReadableCount name n = Fits (count_form name) (nums (n ∷ []))

-- what a reader keeps of it
abbrev pub count_answer : Count → ℕ → ReportLine
count_answer RunsCount n = Runs n
count_answer TicksCount n = Ticks
count_answer BytesCount n = Bytes

-- ---- the one line of an end

-- its form
abbrev pub end_form : End → List Part
end_form Script = end_script_row.form
end_form (Halt v) = end_halt_row.form
end_form (Bad line column) = end_bad_row.form
end_form (Outside line (Second tainted named)) = end_second_row.form
end_form (Outside line (Slow p misses)) = end_slow_row.form
end_form (Outside line (BothBoards b)) = end_board_row.form
end_form (TooLong line) = end_too_long_row.form
end_form Report = end_report_row.form

-- the numbers in it
abbrev pub end_numbers : End → List ℕ
end_numbers Script = []
end_numbers (Halt v) = v ∷ []
end_numbers (Bad line column) = line ∷ column ∷ []
end_numbers (Outside line (Second tainted named)) = line ∷ tainted ∷ named ∷ []
end_numbers (Outside line (Slow p misses)) = line ∷ p ∷ misses ∷ []
end_numbers (Outside line (BothBoards b)) = line ∷ b ∷ []
end_numbers (TooLong line) = line ∷ []
end_numbers Report = []

-- its text
abbrev pub end_text : End → List ℕ
end_text e = spelling (end_form e) (nums (end_numbers e))

-- its numbers are in the ranges of a reader
abbrev pub IsReadableEnd : End → Type 0
IsReadableEnd e = Fits (end_form e) (nums (end_numbers e))

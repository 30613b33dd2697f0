-- The text of a note, a count or an end is a line of the table, and says what a reader keeps of it.
use Rattle.std.proofs.Common.{ℕ, List, [], ◌∷◌, ◌++◌, true, false, refl, inl, inr}
use Rattle.s2_ports.specs.declared.events.Event.TheVariants.{Tick, Key, Private}
use Rattle.s2_text.specs.LineGrammar.{nums}
use Rattle.s2_text.specs.LineTables.{SaysIn}
use Rattle.s2_text.proofs.TableRows.{says_left, says_right}
use Rattle.s2_journal.specs.declared.note.Why.TheVariants.{Differ, Late, Removed}
use Rattle.s2_journal.specs.declared.note.Note.{Note}
use Rattle.s2_journal.specs.declared.note.Note.TheVariants.{Delivered, Out, Lost, Repaired, BoardDead, Mend, Mended, Join, Joined}
use Rattle.s2_journal.specs.declared.note.Reason.TheVariants.{Second, Slow, BothBoards}
use Rattle.s2_journal.specs.declared.note.End.{End}
use Rattle.s2_journal.specs.declared.note.End.TheVariants.{Script, Halt, Bad, Outside, TooLong, Report}
use Rattle.s2_journal.specs.declared.note.Count.{Count}
use Rattle.s2_journal.specs.declared.note.Count.TheVariants.{Runs as RunsCount, Ticks as TicksCount, Bytes as BytesCount}
use Rattle.s2_journal.specs.declared.note.ReportLine.{ReportLine}
use Rattle.s2_journal.specs.declared.note.ReportLine.TheVariants.{End as Ending}
use Rattle.s2_journal.specs.ReportLines.{note_rows, count_rows, end_rows, report_rows, note_text, IsReadableNote, note_answer, count_text, IsReadableCount, count_answer, end_text, IsReadableEnd}

in_notes : (x : ReportLine) (line : List ℕ) → SaysIn note_rows x line → SaysIn report_rows x line
in_notes x line s = says_left note_rows (count_rows ++ end_rows) x line s

in_counts : (x : ReportLine) (line : List ℕ) → SaysIn count_rows x line → SaysIn report_rows x line
in_counts x line s = says_right note_rows (count_rows ++ end_rows) x line (says_left count_rows end_rows x line s)

in_ends : (x : ReportLine) (line : List ℕ) → SaysIn end_rows x line → SaysIn report_rows x line
in_ends x line s = says_right note_rows (count_rows ++ end_rows) x line (says_right count_rows end_rows x line s)

pub note_in_table : (n : Note) → IsReadableNote n → SaysIn report_rows (note_answer n) (note_text n)
note_in_table (Delivered run Tick) h = in_notes _ _ (inl (nums (run ∷ []), h, refl, refl))
note_in_table (Delivered run (Key b)) h = in_notes _ _ (inr (inl (nums (run ∷ b ∷ []), h, refl, refl)))
note_in_table (Delivered run (Private a b c)) h = in_notes _ _ (inr (inr (inr (inr (inr (inr (inr (inr (inr (inr (inr (inr (inr (inr (inl (nums (run ∷ a ∷ b ∷ c ∷ []), h, refl, refl))))))))))))))))
note_in_table (Out tick p Differ) h = in_notes _ _ (inr (inr (inl (nums (tick ∷ p ∷ []), h, refl, refl))))
note_in_table (Out tick p Late) h = in_notes _ _ (inr (inr (inr (inl (nums (tick ∷ p ∷ []), h, refl, refl)))))
note_in_table (Out tick p Removed) h = in_notes _ _ (inr (inr (inr (inr (inl (nums (tick ∷ p ∷ []), h, refl, refl))))))
note_in_table (Lost tick Tick) h = in_notes _ _ (inr (inr (inr (inr (inr (inl (nums (tick ∷ []), h, refl, refl)))))))
note_in_table (Lost tick (Key b)) h = in_notes _ _ (inr (inr (inr (inr (inr (inr (inl (nums (tick ∷ b ∷ []), h, refl, refl))))))))
note_in_table (Lost tick (Private a b c)) h = absurd h.1
note_in_table (Repaired tick b index) h = in_notes _ _ (inr (inr (inr (inr (inr (inr (inr (inl (nums (tick ∷ b ∷ index ∷ []), h, refl, refl)))))))))
note_in_table (BoardDead tick b) h = in_notes _ _ (inr (inr (inr (inr (inr (inr (inr (inr (inl (nums (tick ∷ b ∷ []), h, refl, refl))))))))))
note_in_table (Mend tick b) h = in_notes _ _ (inr (inr (inr (inr (inr (inr (inr (inr (inr (inr (inr (inr (inl (nums (tick ∷ b ∷ []), h, refl, refl))))))))))))))
note_in_table (Mended tick b) h = in_notes _ _ (inr (inr (inr (inr (inr (inr (inr (inr (inr (inr (inr (inr (inr (inl (nums (tick ∷ b ∷ []), h, refl, refl)))))))))))))))
note_in_table (Join tick p) h = in_notes _ _ (inr (inr (inr (inr (inr (inr (inr (inr (inr (inl (nums (tick ∷ p ∷ []), h, refl, refl)))))))))))
note_in_table (Joined tick p true) h = in_notes _ _ (inr (inr (inr (inr (inr (inr (inr (inr (inr (inr (inl (nums (tick ∷ p ∷ []), h, refl, refl))))))))))))
note_in_table (Joined tick p false) h = in_notes _ _ (inr (inr (inr (inr (inr (inr (inr (inr (inr (inr (inr (inl (nums (tick ∷ p ∷ []), h, refl, refl)))))))))))))

pub count_in_table : (name : Count) (n : ℕ) → IsReadableCount name n → SaysIn report_rows (count_answer name n) (count_text name n)
count_in_table RunsCount n h = in_counts _ _ (inl (nums (n ∷ []), h, refl, refl))
count_in_table TicksCount n h = in_counts _ _ (inr (inl (nums (n ∷ []), h, refl, refl)))
count_in_table BytesCount n h = in_counts _ _ (inr (inr (inl (nums (n ∷ []), h, refl, refl))))

pub end_in_table : (e : End) → IsReadableEnd e → SaysIn report_rows Ending (end_text e)
end_in_table Script h = in_ends _ _ (inl ([], h, refl, refl))
end_in_table (Halt v) h = in_ends _ _ (inr (inl (nums (v ∷ []), h, refl, refl)))
end_in_table (Bad line column) h = in_ends _ _ (inr (inr (inl (nums (line ∷ column ∷ []), h, refl, refl))))
end_in_table (Outside line (Second tainted named)) h = in_ends _ _ (inr (inr (inr (inl (nums (line ∷ tainted ∷ named ∷ []), h, refl, refl)))))
end_in_table (Outside line (Slow p misses)) h = in_ends _ _ (inr (inr (inr (inr (inl (nums (line ∷ p ∷ misses ∷ []), h, refl, refl))))))
end_in_table (Outside line (BothBoards b)) h = in_ends _ _ (inr (inr (inr (inr (inr (inl (nums (line ∷ b ∷ []), h, refl, refl)))))))
end_in_table (TooLong line) h = in_ends _ _ (inr (inr (inr (inr (inr (inr (inl (nums (line ∷ []), h, refl, refl))))))))
end_in_table Report h = in_ends _ _ (inr (inr (inr (inr (inr (inr (inr (inl ([], h, refl, refl)))))))))

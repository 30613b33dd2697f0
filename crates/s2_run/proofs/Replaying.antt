-- The replay of a report, as far as its lines are read.
use Rattle.std.proofs.Common.{◌≡◌, ℕ, zero, suc, ◌+◌, ◌-◌, ◌<◌, ◌≤◌, Bool, false, List, [], ◌∷◌, ◌++◌, take, drop, length, append_assoc, append-nil, length-append, refl, sym, ap, arith, ◌∙◌, subst, inl, inr}
use Rattle.std.specs.Prelude.{Some, None, Ok, Err, IfOk, OnOk, ◌≢◌, ◌==◌, ◌&&◌, ◌^◌, nat_eq, not, bytes_eq, if◌then◌else◌}
use Rattle.std.specs.declared.option.Option.{Option}
use Rattle.std.specs.declared.result.Result.{Result}
use Rattle.std.proofs.lemmas.List.{drop-drop}
use Rattle.std.proofs.lemmas.Bool.Decides.{nat_tests}
use Rattle.s2_text.proofs.LiteralWords.{cases}
use Rattle.s2_io.specs.Sinks.{appended}
use Rattle.s2_ports.specs.declared.events.Event.{Event}
use Rattle.s2_text.specs.declared.stops.BadLine.{BadLine}
use Rattle.s2_text.proofs.ShortLines.{uncut_row}
use Rattle.s2_machine.specs.Machine.{Machine}
use Rattle.s2_machine.specs.MachineRun.{RunState, after_delivery}
use Rattle.s2_single.specs.SingleMachine.{in_run}
use Rattle.s2_journal.specs.declared.note.ReportLine.{ReportLine}
use Rattle.s2_journal.specs.ReportLines.{report_rows}
use Rattle.s2_journal.specs.ReportOrder.{OrderState, order_state, order_fault, place_of, falls_back, is_too_few, end_report, closing_lines, ReadsNext, Follow}
use Rattle.s2_journal.proofs.ReportTests.{report_short}
use Rattle.s2_run.specs.declared.limits.TheConstants.{INPUT_LIMIT}
use Rattle.s2_run.specs.declared.output.Cut.{Cut}
use Rattle.s2_run.specs.declared.verdict.Verdict.{Verdict}
use Rattle.s2_run.specs.declared.verdict.Verdict.TheVariants.{Passed, Bad, TooLong}
use Rattle.s2_text.specs.InputLines.{InputLine, lines_of, size_of, texts_of}
use Rattle.s2_run.specs.FailedReads.{IsFed}
use Rattle.s2_run.specs.NextLine.{HasLine, HasLongLine, HasFront}
use Rattle.s2_run.specs.ReportReading.{InOrder, ReadsReport}
use Rattle.s2_run.specs.Execution.{run_within}
use Rattle.s2_run.specs.Replay.{run_of, replayed, IsReplayUnread, IsReplayCut}
use Rattle.s2_run.specs.ReplayParts.{reached, after_line, IsRunThrough}
use Rattle.s2_run.specs.SeenObjects.{Streams, streams}
use Rattle.s2_run.proofs.LineList.{unread_behind}
use Rattle.s2_run.proofs.Pieces.{appended_twice, appended_none, appended_front}
use Rattle.s2_run.proofs.Checking.{size_append}
use Rattle.s2_single.proofs.ProgramCycles.{behind, halted_cycles, cycles_count}
use Rattle.s2_run.proofs.ReplayedLines.{HasCome, from_start, line_more, has_come, has_come_none}

-- ---- the parts of a line

-- nothing is run after a halt
halted_reached : (run : ℕ) (m : Machine) (value : ℕ) → m.halt ≡ Some value → reached run m ≡ in_run m []
halted_reached run m value h = halted_cycles (run - m.cpu.run) (in_run m []) value h

pub halted_took : (run : ℕ) (m : Machine) (value : ℕ) (o : Option (List ℕ)) → m.halt ≡ Some value → o ≡ appended o (reached run m).bytes
halted_took run m value o h = sym (ap (λ (q : RunState). appended o q.bytes) (halted_reached run m value h) ∙ appended_none o)

pub halted_stays : (run : ℕ) (m : Machine) (value : ℕ) → m.halt ≡ Some value → m ≡ (reached run m).machine
halted_stays run m value h = sym (ap (λ (q : RunState). q.machine) (halted_reached run m value h))

pub halted_wrote : (run : ℕ) (m : Machine) (value : ℕ) → m.halt ≡ Some value → 0 ≡ length (reached run m).bytes
halted_wrote run m value h = sym (ap (λ (q : RunState). length q.bytes) (halted_reached run m value h))

-- cycles count
pub counted_steps : (result : Result ℕ Cut) (m m' : Machine) (k : ℕ) → m.cpu.run + k < 2 ^ 64 → IfOk result (λ (n : ℕ). n ≡ length (run_within m k).bytes) → OnOk result (m' ≡ (run_within m k).machine) → IfOk result (λ (n : ℕ). m.cpu.run + n ≤ m'.cpu.run)
counted_steps (Ok n) m m' k small count is =
    let c = cycles_count k (in_run m []) small in
    let b = c.bytes in
    let same = ap (λ (q : Machine). q.cpu.run) is in
    omega arith
counted_steps (Err e) m m' k small count is = tt

pub counted_range : (result : Result ℕ Cut) (m m' : Machine) (k : ℕ) → m.cpu.run + k < 2 ^ 64 → OnOk result (m' ≡ (run_within m k).machine) → OnOk result (m'.cpu.run < 2 ^ 64)
counted_range (Ok n) m m' k small is =
    let c = cycles_count k (in_run m []) small in
    let w = c.within in
    let same = ap (λ (q : Machine). q.cpu.run) is in
    omega arith
counted_range (Err e) m m' k small is = tt

-- a delivery at a run count
pub delivered : (m m1 m2 : Machine) (run : ℕ) (event : Event) → m1 ≡ (reached run m).machine → ((bytes : List ℕ) → after_delivery (in_run m1 bytes) event ≡ in_run m2 bytes) → m2 ≡ (after_delivery (reached run m) event).machine
delivered m m1 m2 run event is acts =
    sym (ap (λ (q : RunState). q.machine) (ap (λ (x : Machine). after_delivery (in_run x (reached run m).bytes) event) (sym is) ∙ acts (reached run m).bytes))

-- ---- a line, of which the first bytes are held

-- they decide whether it is a short text
short_test : (n : ℕ) (xs ys : List ℕ) → length ys < n → bytes_eq (take n xs) ys ≡ bytes_eq xs ys
short_test zero xs ys h = absurd (omega arith)
short_test (suc n) [] ys h = refl
short_test (suc n) (x ∷ xs) [] h = refl
short_test (suc n) (x ∷ xs) (y ∷ ys) h = ap (λ (t : Bool). nat_eq x y && t) (short_test n xs ys (omega arith))

uncut_fault : (before : OrderState) (line : List ℕ) (x : ReportLine) → order_fault before (take 129 line) x ≡ order_fault before line x
uncut_fault before line x =
    ap (λ (t : Bool). if not (before.closing == place_of x) then Some 1 else if t then Some 1 else if falls_back before.latest x then Some 3 else if is_too_few before.latest x then Some 6 else None)
    (short_test 129 line end_report (omega arith))

uncut_next : (said : List ReportLine) (line held : List ℕ) (r : Result ReportLine BadLine) → held ≡ take 129 line → ReadsNext said held r → ReadsNext said line r
uncut_next said line held (Ok x) is h =
    (uncut_row report_rows line held (Ok x) report_short is h.0, sym (uncut_fault (order_state said) line x) ∙ (sym (ap (λ (t : List ℕ). order_fault (order_state said) t x) is) ∙ h.1))
uncut_next said line held (Err bad) is (inl outside) = inl (uncut_row report_rows line held (Err bad) report_short is outside)
uncut_next said line held (Err bad) is (inr (x, says, fault)) =
    inr (x, uncut_row report_rows line held (Ok x) report_short is says, sym (uncut_fault (order_state said) line x) ∙ (sym (ap (λ (t : List ℕ). order_fault (order_state said) t x) is) ∙ fault))

-- one line more in order
follow_more : (before : List ReportLine) (lines : List (List ℕ)) (said : List ReportLine) (line : List ℕ) (x : ReportLine) → Follow before lines said → ReadsNext (before ++ said) line (Ok x) → Follow before (lines ++ line ∷ []) (said ++ x ∷ [])
follow_more before [] [] line x f next = (subst (λ (s : List ReportLine). ReadsNext s line (Ok x)) (append-nil before) next, tt)
follow_more before [] (y ∷ said) line x f next = absurd f
follow_more before (l ∷ lines) [] line x f next = absurd f
follow_more before (l ∷ lines) (y ∷ said) line x f next =
    (f.0, follow_more (before ++ y ∷ []) lines said line x f.1 (subst (λ (s : List ReportLine). ReadsNext s line (Ok x)) (sym (append_assoc before (y ∷ []) said)) next))

texts_more : (lines : List InputLine) (line : InputLine) → texts_of (lines ++ line ∷ []) ≡ texts_of lines ++ line.text ∷ []
texts_more [] line = refl
texts_more (l ∷ lines) line = ap (λ (ts : List (List ℕ)). l.text ∷ ts) (texts_more lines line)

-- ---- the lines that were read

-- lines of a report were read and run
pub record Replaying (start : Machine) (input : List ℕ) (taken lines bytes : ℕ) (order : OrderState) (machine : Machine) (left before now : Option (List ℕ)) : Type 0 where
  pub read : List InputLine
  pub rest : List ℕ
  pub said : List ReportLine
  pub lines_are : lines_of input ≡ read ++ lines_of rest
  pub lines_count : lines ≡ length read
  pub taken_is : taken ≡ size_of read
  pub follow : Follow [] (texts_of read) said
  pub order_is : order ≡ order_state said
  pub rest_is : rest ≡ drop taken input
  pub left_is : left ≡ Some rest
  pub machine_is : machine ≡ (replayed start said).machine
  pub bytes_are : bytes ≡ length (replayed start said).bytes
  pub took : now ≡ appended before (replayed start said).bytes
  pub has : HasCome said machine

pub replaying_none : (start : Machine) (input : List ℕ) (order : OrderState) (left before : Option (List ℕ)) → start.cpu.run ≡ 0 → order ≡ order_state [] → left ≡ Some input → Replaying start input 0 0 0 order start left before before
replaying_none start input order left before fresh order_is left_is =
    let none : replayed start [] ≡ in_run start [] = from_start start [] 0 fresh in
    record {
      read = [];
      rest = input;
      said = [];
      lines_are = refl;
      lines_count = refl;
      taken_is = refl;
      follow = tt;
      order_is = order_is;
      rest_is = refl;
      left_is = left_is;
      machine_is = sym (ap (λ (q : RunState). q.machine) none);
      bytes_are = sym (ap (λ (q : RunState). length q.bytes) none);
      took = sym (ap (λ (q : RunState). appended before q.bytes) none ∙ appended_none before);
      has = has_come_none start fresh;
    }

-- what a line did, from the machine of the lines before it
ran_line : (start machine : Machine) (said : List ReportLine) (line : List ℕ) (x : ReportLine) → start.cpu.run ≡ 0 → machine ≡ (replayed start said).machine → HasCome said machine → order_fault (order_state said) line x ≡ None
    → replayed start (said ++ x ∷ []) ≡ behind (replayed start said).bytes (after_line x machine)
ran_line start machine said line x fresh is has e =
    line_more start said line x fresh e (subst (HasCome said) is has)
    ∙ ap (λ (q : Machine). behind (replayed start said).bytes (after_line x q)) (sym is)

-- a line more
pub replay_line : {start machine : Machine} {input held : List ℕ} {taken lines bytes size : ℕ} {order : OrderState} {left left' before now : Option (List ℕ)} (x : ReportLine) (written : ℕ) (order' : OrderState) (machine' : Machine) (now' : Option (List ℕ))
    → (r : Replaying start input taken lines bytes order machine left before now) → HasLine r.rest size held left' → ReadsNext r.said held (Ok x) → start.cpu.run ≡ 0 → run_of x < 2 ^ 64
    → order' ≡ order_state (r.said ++ x ∷ []) → machine' ≡ (after_line x machine).machine → written ≡ length (after_line x machine).bytes → now' ≡ appended now (after_line x machine).bytes
    → Replaying start input (taken + size) (lines + 1) (bytes + written) order' machine' left' before now'
replay_line {start} {machine} {input} {held} {taken} {lines} {bytes} {size} {order} {left} {left'} {before} {now} x written order' machine' now' r l h fresh small order_is moved wrote took =
    let line : InputLine = record { text = l.text; size = size } in
    let next = uncut_next r.said l.text held (Ok x) l.held_is h in
    let all = ran_line start machine r.said held x fresh r.machine_is r.has h.1 in
    let one : length ((replayed start r.said).bytes ++ (after_line x machine).bytes) ≡ length (replayed start r.said).bytes + length (after_line x machine).bytes = length-append (replayed start r.said).bytes (after_line x machine).bytes in
    record {
      read = r.read ++ line ∷ [];
      rest = l.rest;
      said = r.said ++ x ∷ [];
      lines_are = r.lines_are ∙ (ap (λ (ls : List InputLine). r.read ++ ls) l.lines_are ∙ sym (append_assoc r.read (line ∷ []) (lines_of l.rest)));
      lines_count = omega (arith, r.lines_count, length-append r.read (line ∷ []));
      taken_is = omega (arith, r.taken_is, size_append r.read (line ∷ []));
      follow = subst (λ (ts : List (List ℕ)). Follow [] ts (r.said ++ x ∷ [])) (sym (texts_more r.read line)) (follow_more [] (texts_of r.read) r.said l.text x r.follow next);
      order_is = order_is;
      rest_is = l.rest_is ∙ (ap (drop size) r.rest_is ∙ drop-drop size taken input);
      left_is = l.left_is;
      machine_is = moved ∙ sym (ap (λ (q : RunState). q.machine) all);
      bytes_are = ap (λ (n : ℕ). n + written) r.bytes_are ∙ (ap (λ (n : ℕ). length (replayed start r.said).bytes + n) wrote ∙ (sym one ∙ sym (ap (λ (q : RunState). length q.bytes) all)));
      took = took ∙ (ap (λ (o : Option (List ℕ)). appended o (after_line x machine).bytes) r.took ∙ (appended_twice before (replayed start r.said).bytes (after_line x machine).bytes ∙ sym (ap (λ (q : RunState). appended before q.bytes) all)));
      has = has_come machine machine' r.said held x small h.1 r.has moved;
    }

-- the place of a line that was read
abbrev line_place : {start machine : Machine} {input : List ℕ} {taken lines bytes : ℕ} {order : OrderState} {left before now : Option (List ℕ)} → (r : Replaying start input taken lines bytes order machine left before now) → (after : List InputLine) → lines_of r.rest ≡ after → taken ≤ INPUT_LIMIT → InOrder input r.said
line_place r after same most = record {
  before = r.read;
  after = after;
  lines_are = r.lines_are ∙ ap (λ (ls : List InputLine). r.read ++ ls) same;
  order = r.follow;
  short = omega (arith, r.taken_is);
}

abbrev run_through : {start machine : Machine} {input : List ℕ} {taken lines bytes : ℕ} {order : OrderState} {left before now : Option (List ℕ)} (verdict : Verdict) (old new : Streams) → (r : Replaying start input taken lines bytes order machine left before now) → ReadsReport input verdict r.said new.left → new.console ≡ appended old.console (replayed start r.said).bytes → IsRunThrough start input (record { verdict = verdict; bytes = bytes }) machine old new
run_through verdict old new r reading took = record { said = r.said; reading = reading; machine_is = r.machine_is; bytes_are = r.bytes_are; console_took = took }

-- a line that goes wrong
pub replay_bad : {start machine : Machine} {input held : List ℕ} {taken lines bytes size : ℕ} {order : OrderState} {left left' before now : Option (List ℕ)} (left0 report : Option (List ℕ)) (bad : BadLine)
    → (r : Replaying start input taken lines bytes order machine left before now) → HasLine r.rest size held left' → ReadsNext r.said held (Err bad) → taken ≤ INPUT_LIMIT → taken + size ≤ INPUT_LIMIT
    → IsRunThrough start input (record { verdict = Bad (lines + 1) bad.column; bytes = bytes }) machine (streams left0 before report) (streams left' now report)
replay_bad {start} {machine} {input} {held} {taken} {lines} {bytes} {size} {order} {left} {left'} {before} {now} left0 report bad r l h below most =
    let line : InputLine = record { text = l.text; size = size } in
    let place = line_place r (line ∷ lines_of l.rest) l.lines_are below in
    let all : taken + size ≡ size_of r.read + size = ap (λ (n : ℕ). n + size) r.taken_is in
    run_through (Bad (lines + 1) bad.column) (streams left0 before report) (streams left' now report) r (
      place,
      ap (λ (n : ℕ). n + 1) r.lines_count,
      (bad, uncut_next r.said l.text held (Err bad) l.held_is h, refl),
      omega arith,
      l.left_is ∙ ap Some (l.rest_is ∙ (ap (drop size) r.rest_is ∙ (drop-drop size taken input ∙ ap (λ (n : ℕ). drop n input) all))),
    )
    r.took

-- a line with a byte too many
pub replay_long : {start machine : Machine} {input : List ℕ} {taken lines bytes : ℕ} {order : OrderState} {left left' before now : Option (List ℕ)} (left0 report : Option (List ℕ))
    → (r : Replaying start input taken lines bytes order machine left before now) → HasLongLine r.rest (INPUT_LIMIT - taken) left' → taken ≤ INPUT_LIMIT
    → IsRunThrough start input (record { verdict = TooLong (lines + 1); bytes = bytes }) machine (streams left0 before report) (streams left' now report)
replay_long {start} {machine} {input} {taken} {lines} {bytes} {order} {left} {left'} {before} {now} left0 report r l most =
    let count : taken + (INPUT_LIMIT - taken + 1) ≡ INPUT_LIMIT + 1 = omega arith in
    let place = line_place r (l.line ∷ l.more) l.lines_are most in
    run_through (TooLong (lines + 1)) (streams left0 before report) (streams left' now report) r (
      place,
      ap (λ (n : ℕ). n + 1) r.lines_count,
      omega (arith, l.long, r.taken_is),
      l.left_is ∙ ap Some (ap (drop (INPUT_LIMIT - taken + 1)) r.rest_is ∙ (drop-drop (INPUT_LIMIT - taken + 1) taken input ∙ ap (λ (n : ℕ). drop n input) count)),
    )
    r.took

other_by : (n : ℕ) → (n == closing_lines) ≡ false → n ≡ closing_lines → ⊥
other_by n few h = (let same = rw h at few in cc)

-- the end of the input, where the report is whole, and where it is not
pub replay_whole : {start machine : Machine} {input : List ℕ} {taken lines bytes : ℕ} {order : OrderState} {left left' before now : Option (List ℕ)} (left0 report : Option (List ℕ))
    → (r : Replaying start input taken lines bytes order machine left before now) → (r.rest ≡ []) × (left' ≡ Some []) → order.closing ≡ closing_lines → taken ≤ INPUT_LIMIT
    → IsRunThrough start input (record { verdict = Passed; bytes = bytes }) machine (streams left0 before report) (streams left' now report)
replay_whole {start} {machine} {input} {taken} {lines} {bytes} {order} {left} {left'} {before} {now} left0 report r e whole most =
    let all : lines_of input ≡ r.read = r.lines_are ∙ (ap (λ (x : List ℕ). r.read ++ lines_of x) e.0 ∙ append-nil r.read) in
    run_through Passed (streams left0 before report) (streams left' now report) r (
      record {
        order = subst (λ (ls : List InputLine). Follow [] (texts_of ls) r.said) (sym all) r.follow;
        whole = sym (ap (λ (s : OrderState). s.closing) r.order_is) ∙ whole;
      },
      subst (λ (ls : List InputLine). size_of ls ≤ INPUT_LIMIT) (sym all) (omega (arith, r.taken_is)),
      e.1,
    )
    r.took

pub replay_early : {start machine : Machine} {input : List ℕ} {taken lines bytes : ℕ} {order : OrderState} {left left' before now : Option (List ℕ)} (left0 report : Option (List ℕ))
    → (r : Replaying start input taken lines bytes order machine left before now) → (r.rest ≡ []) × (left' ≡ Some []) → order.closing ≢ closing_lines → taken ≤ INPUT_LIMIT
    → IsRunThrough start input (record { verdict = Bad (lines + 1) 1; bytes = bytes }) machine (streams left0 before report) (streams left' now report)
replay_early {start} {machine} {input} {taken} {lines} {bytes} {order} {left} {left'} {before} {now} left0 report r e early most =
    let place = line_place r [] (ap lines_of e.0) most in
    let all : taken ≡ size_of r.read + 0 = omega (arith, r.taken_is) in
    run_through (Bad (lines + 1) 1) (streams left0 before report) (streams left' now report) r (
      place,
      ap (λ (n : ℕ). n + 1) r.lines_count,
      (λ w. early (ap (λ (s : OrderState). s.closing) r.order_is ∙ w), refl),
      omega (arith, r.taken_is),
      e.1 ∙ ap Some (sym e.0 ∙ (r.rest_is ∙ ap (λ (n : ℕ). drop n input) all)),
    )
    r.took

pub replay_ended : {start machine : Machine} {input : List ℕ} {taken lines bytes : ℕ} {order : OrderState} {left left' before now : Option (List ℕ)} (left0 report : Option (List ℕ)) (verdict : Verdict)
    → (r : Replaying start input taken lines bytes order machine left before now) → (r.rest ≡ []) × (left' ≡ Some []) → (order.closing ≡ closing_lines → verdict ≡ Passed) → (order.closing ≢ closing_lines → verdict ≡ Bad (lines + 1) 1) → taken ≤ INPUT_LIMIT
    → IsRunThrough start input (record { verdict = verdict; bytes = bytes }) machine (streams left0 before report) (streams left' now report)
replay_ended {start} {machine} {input} {taken} {lines} {bytes} {order} {left} {left'} {before} {now} left0 report verdict r e whole early most =
    let P : Verdict → Type 0 = λ (v : Verdict). IsRunThrough start input (record { verdict = v; bytes = bytes }) machine (streams left0 before report) (streams left' now report) in
    elim (cases (order.closing == closing_lines)) [
      | inl all ↦ (let same : order.closing ≡ closing_lines = grind (arith, nat_tests) in subst P (sym (whole same)) (replay_whole left0 report r e same most))
      | inr few ↦ (let other : order.closing ≢ closing_lines = (λ h. other_by order.closing few h) in subst P (sym (early other)) (replay_early left0 report r e other most))
    ]

-- a read that fails
pub replay_failed : {start machine : Machine} {input : List ℕ} {taken lines bytes : ℕ} {order : OrderState} {left left' before now : Option (List ℕ)} (left0 report : Option (List ℕ))
    → (r : Replaying start input taken lines bytes order machine left before now) → HasFront r.rest (INPUT_LIMIT - taken) left' → taken ≤ INPUT_LIMIT → IsFed (take taken input)
    → IsReplayUnread start input (streams left0 before report) (streams left' now report)
replay_failed {start} {machine} {input} {taken} {lines} {bytes} {order} {left} {left'} {before} {now} left0 report r f most fed = record {
  said = r.said;
  unread = record {
    place = line_place r (lines_of r.rest) refl most;
    unread = unread_behind input r.rest r.read taken r.rest_is r.taken_is fed f most;
  };
  console_took = r.took;
  report_same = refl;
}

-- a write to the console that fails
pub replay_cut : {start machine : Machine} {input held : List ℕ} {taken lines bytes size : ℕ} {order : OrderState} {left left' before now : Option (List ℕ)} (left0 report : Option (List ℕ)) (x : ReportLine) (cut : ℕ) (now' : Option (List ℕ))
    → (r : Replaying start input taken lines bytes order machine left before now) → HasLine r.rest size held left' → ReadsNext r.said held (Ok x) → start.cpu.run ≡ 0 → taken + size ≤ INPUT_LIMIT
    → cut < length (after_line x machine).bytes → now' ≡ appended now (take cut (after_line x machine).bytes)
    → IsReplayCut start input (streams left0 before report) (streams left' now' report)
replay_cut {start} {machine} {input} {held} {taken} {lines} {bytes} {size} {order} {left} {left'} {before} {now} left0 report x cut now' r l h fresh most short took =
    let line : InputLine = record { text = l.text; size = size } in
    let next = uncut_next r.said l.text held (Ok x) l.held_is h in
    let all = ran_line start machine r.said held x fresh r.machine_is r.has h.1 in
    let old : List ℕ = (replayed start r.said).bytes in
    let new : List ℕ = (after_line x machine).bytes in
    let both : (replayed start (r.said ++ x ∷ [])).bytes ≡ old ++ new = ap (λ (q : RunState). q.bytes) all in
    let one : length (replayed start (r.said ++ x ∷ [])).bytes ≡ length old + length new = ap length both ∙ length-append old new in
    let size_is : taken + size ≡ size_of (r.read ++ line ∷ []) = omega (arith, r.taken_is, size_append r.read (line ∷ [])) in
    record {
      said = r.said;
      last = x;
      place = record {
        before = r.read ++ line ∷ [];
        after = lines_of l.rest;
        lines_are = r.lines_are ∙ (ap (λ (ls : List InputLine). r.read ++ ls) l.lines_are ∙ sym (append_assoc r.read (line ∷ []) (lines_of l.rest)));
        order = subst (λ (ts : List (List ℕ)). Follow [] ts (r.said ++ x ∷ [])) (sym (texts_more r.read line)) (follow_more [] (texts_of r.read) r.said l.text x r.follow next);
        short = omega arith;
      };
      bytes = length old + cut;
      before = omega arith;
      short = omega arith;
      console_took = appended_front before now now' old new cut r.took took ∙ ap (λ (bs : List ℕ). appended before (take (length old + cut) bs)) (sym both);
      report_same = refl;
      left_is = l.left_is ∙ ap Some (l.rest_is ∙ (ap (drop size) r.rest_is ∙ (drop-drop size taken input ∙ ap (λ (n : ℕ). drop n input) size_is)));
    }

-- A run goes on with its begins of mendings where it goes on without them: beside a machine that has lost a board and
-- mends none, which takes no fault of a board any more, one that mends it refuses no step.
use Rattle.std.proofs.Common.{◌≡◌, ℕ, List, [], ◌∷◌, refl, sym, ap, subst, inl, inr, ◌⊎◌, ◌∙◌}
use Rattle.std.specs.Prelude.{Bool, true, false, not, ◌&&◌, ◌||◌, Some, None, is_some, if◌then◌else◌}
use Rattle.std.specs.List.{All}
use Rattle.std.specs.declared.option.Option.{Option}
use Rattle.std.proofs.lemmas.List.Elements.{All-head, All-tail}
use Rattle.s2_base.specs.declared.places.Place.{Place}
use Rattle.s2_base.specs.declared.places.Place.TheVariants.{Local, Boot, Global, Device as DevicePlace, Nowhere}
use Rattle.s2_base.specs.Map.{place_at}
use Rattle.s2_base.specs.Words.{bytes_into_of}
use Rattle.s2_ports.specs.declared.events.BoardFault.{BoardFault}
use Rattle.s2_ports.specs.declared.events.BoardFault.TheVariants.{Dead, Flip}
use Rattle.s2_ports.specs.declared.requests.Request.{Request}
use Rattle.s2_ports.specs.declared.requests.Kind.{Kind}
use Rattle.s2_ports.specs.declared.requests.Kind.TheVariants.{Load, Store, Sync}
use Rattle.s2_duplex.specs.DuplexBoards.{BoardState, BoardPair, BoardRead, valid_word, with_word, written_board, boards_written}
use Rattle.s2_duplex.specs.MendedBoards.{board_out}
use Rattle.s2_duplex.specs.ToleratedFaults.{is_tolerated}
use Rattle.s2_revive.specs.declared.revive.Mending.{Mending}
use Rattle.s2_revive.specs.MendingBoards.{MendingBoards, mending_begins, also_written, idled_in}
use Rattle.s2_revive.specs.MendingFaults.{ends_mending, is_fault_tolerated, struck_if, mending_struck}
use Rattle.s2_revive.proofs.MendedWords.{out_bits}
use Rattle.s2_revive.proofs.MendingMemory.{unread, begins_out, not_tolerated}
use Rattle.s2_voter.specs.declared.verdicts.Verdict.{Verdict}
use Rattle.s2_voter.specs.declared.verdicts.Verdict.TheVariants.{Waiting, Done, Split}
use Rattle.s2_journal.specs.declared.note.Reason.{Reason}
use Rattle.s2_script.specs.declared.entry.Act.TheVariants.{Event as EventAct, Poke, PokeLocal, Drive, Mute, Remove, Revive, Board, Mend}
use Rattle.s2_triplex.specs.R2000Triplex.{boards_after_access, r2000_triplex}
use Rattle.s2_triplex.specs.TriplexState.{TriplexState, started_triplex}
use Rattle.s2_triplex.specs.TickFirings.{after_firings}
use Rattle.s2_triplex.specs.VotedAccess.{access_of_kind}
use Rattle.s2_triplex.specs.VoterDecision.{no_effects, after_verdict, tick_verdict, is_idle_verdict, is_sync_verdict}
use Rattle.s2_triplex.specs.CopyHolds.{hold_begun_if, is_holding, after_idle_tick, after_hold_tick}
use Rattle.s2_triplex.specs.TickStep.{boards_idled_if, after_working_tick, ticked}
use Rattle.s2_triplex.specs.ActStep.{is_revivable, revived, mend_begun}
use Rattle.s2_triplex.specs.StepTurns.{unless_refused}
use Rattle.s2_triplex.specs.TriplexSteps.{TriplexStep, clock_tick, script_act, step_refusal, stepped, step_turn, next_after_step}
use Rattle.s2_triplex_laws.specs.TriplexStates.{IsTriplexState}
use Rattle.s2_triplex_laws.specs.TriplexExecutions.{IsStepCall, has_ticks_left, is_accepted, takes_step}
use Rattle.s2_triplex_laws.specs.BoardMending.{EqualButBoards, is_mend, without_mends, all_taken, after_all, is_idle_step}
use Rattle.s2_triplex_laws.specs.MendingGoesOn.{MendsGoOnAsFar}
use Rattle.s2_triplex_laws.proofs.R2000Boards.{r2000_triplex_core}
use Rattle.s2_triplex_laws.proofs.LawfulSteps.{tolerated_by}
use Rattle.s2_triplex_laws.proofs.TriplexStates.{start_is_state}
use Rattle.s2_triplex_laws.proofs.BoardMending.{with_boards, copied_moved, begun_if_moved, steps_ignore_boards, mend_alike}
use Rattle.s2_triplex_laws.proofs.MendedRuns.{both_true, Taken, taken_tells, next_is, keeps_state, mend_is}
use Rattle.s2_triplex_laws.proofs.MendingCounts.{tick_mends, verdict_mending, unless_boards}

clash : (b : Bool) → b ≡ true → b ≡ false → ⊥
clash b x y = cc

and_true : (a b : Bool) → a ≡ true → b ≡ true → (a && b) ≡ true
and_true true b x y = y
and_true false b x y = absurd cc

-- ---- boards of which one is out and none mends

record IsLone (s : MendingBoards) : Type 0 where
  board : ℕ
  out : board_out s.pair ≡ Some board

no_fault : (s : MendingBoards) (fault : BoardFault) → IsLone s → s.mending ≡ None → is_fault_tolerated s fault ≡ true → ⊥
no_fault s (Dead board) lone none tolerated =
    clash (is_tolerated s.pair (Dead board)) (ap (λ (o : Option Mending). ends_mending o (Dead board) || is_tolerated s.pair (Dead board)) (sym none) ∙ tolerated) (not_tolerated s.pair lone.board (Dead board) lone.out)
no_fault s (Flip board index bit) lone none tolerated = clash (is_tolerated s.pair (Flip board index bit)) tolerated (not_tolerated s.pair lone.board (Flip board index bit) lone.out)

in_stays : (t : Bool) (x : BoardState) (i w : ℕ) → (if t then with_word x i w else x).is_in ≡ x.is_in
in_stays true x i w = refl
in_stays false x i w = refl

out_written : (s : BoardPair) (i w : ℕ) → board_out (boards_written s i w) ≡ board_out s
out_written s i w =
    ap (λ (x : Bool). out_bits x (written_board s.second i w).is_in) (in_stays s.first.is_in s.first i w)
    ∙ ap (out_bits s.first.is_in) (in_stays s.second.is_in s.second i w)

access_out : (s : MendingBoards) (kind : Kind) (word mask : ℕ) (place : Place) (b : ℕ) → s.mending ≡ None → board_out s.pair ≡ Some b → board_out (boards_after_access s kind word mask place).boards.pair ≡ Some b
access_out s Load word mask (Global i) b none out = ap (λ (r : BoardRead). board_out r.boards) (unread s.pair b i out) ∙ out
access_out s Store word mask (Global i) b none out =
    let w = bytes_into_of (valid_word s.pair i) word mask in
    ap (λ (o : Option Mending). board_out (also_written o (boards_written s.pair i w) i w)) none ∙ (out_written s.pair i w ∙ out)
access_out s Sync word mask (Global i) b none out = out
access_out s Load word mask (Local i) b none out = out
access_out s Store word mask (Local i) b none out = out
access_out s Sync word mask (Local i) b none out = out
access_out s Load word mask (Boot i) b none out = out
access_out s Store word mask (Boot i) b none out = out
access_out s Sync word mask (Boot i) b none out = out
access_out s Load word mask (DevicePlace i) b none out = out
access_out s Store word mask (DevicePlace i) b none out = out
access_out s Sync word mask (DevicePlace i) b none out = out
access_out s Load word mask Nowhere b none out = out
access_out s Store word mask Nowhere b none out = out
access_out s Sync word mask Nowhere b none out = out

kind_out : (d : TriplexState) (r : Request) (kind : Kind) (b : ℕ) → d.boards.mending ≡ None → board_out d.boards.pair ≡ Some b → board_out (access_of_kind r2000_triplex d r kind).boards.pair ≡ Some b
kind_out d r Sync b none out = out
kind_out d r Load b none out = access_out d.boards r.kind r.word r.mask (place_at r.address) b none out
kind_out d r Store b none out = access_out d.boards r.kind r.word r.mask (place_at r.address) b none out

verdict_out : (d : TriplexState) (v : Verdict) (b : ℕ) → d.boards.mending ≡ None → board_out d.boards.pair ≡ Some b → board_out (after_verdict r2000_triplex d v).next.boards.pair ≡ Some b
verdict_out d Waiting b none out = out
verdict_out d Split b none out = out
verdict_out d (Done r differ late) b none out = kind_out d r r.kind b none out

idled_out : (t : Bool) (s : MendingBoards) (b : ℕ) → s.mending ≡ None → board_out s.pair ≡ Some b → board_out (boards_idled_if t s).pair ≡ Some b
idled_out true s b none out = ap (λ (o : Option Mending). board_out (idled_in s.pair o).pair) none ∙ out
idled_out false s b none out = out

-- ---- a step of a machine in which nothing mends, other than the begin of a mending

tick_none : (d : TriplexState) (mask : ℕ) → IsTriplexState r2000_triplex d → d.boards.mending ≡ None → (ticked r2000_triplex d mask).next.boards.mending ≡ None
tick_none d mask h none = by_idle (is_idle_step r2000_triplex d (clock_tick mask)) refl
  where
    by_idle : (b : Bool) → is_idle_step r2000_triplex d (clock_tick mask) ≡ b → (ticked r2000_triplex d mask).next.boards.mending ≡ None
    by_idle true is = ap (λ (s : MendingBoards). s.mending) ((tick_mends r2000_triplex r2000_triplex_core d mask h.invariant.masking.agreement.boards).idle_turn is) ∙ ap (λ (o : Option Mending). (idled_in d.boards.pair o).mending) none
    by_idle false is = (tick_mends r2000_triplex r2000_triplex_core d mask h.invariant.masking.agreement.boards).busy is ∙ none

tick_lone : (d : TriplexState) (mask : ℕ) → IsTriplexState r2000_triplex d → d.boards.mending ≡ None → IsLone d.boards → IsLone (ticked r2000_triplex d mask).next.boards
tick_lone d mask h none lone = by_hold (is_holding d.reintegration)
  where
    by_hold : (b : Bool) → IsLone (if b then record { next = after_hold_tick d mask; effects = no_effects } else after_working_tick r2000_triplex d mask).next.boards
    by_hold true = record { board = lone.board; out = ap (λ (s : MendingBoards). board_out s.pair) (copied_moved d.boards (after_idle_tick d mask) d.reintegration).same ∙ lone.out }
    by_hold false =
        let f = after_firings r2000_triplex d mask in
        let v = tick_verdict r2000_triplex d mask in
        let begun = (begun_if_moved d.boards (is_sync_verdict v) (after_verdict r2000_triplex f v).next).same in
        let mending = verdict_mending r2000_triplex r2000_triplex_core f v h.invariant.masking.agreement.boards in
        record {
          board = lone.board;
          out = idled_out (is_idle_verdict v) (hold_begun_if (is_sync_verdict v) (after_verdict r2000_triplex f v).next).boards lone.board (ap (λ (s : MendingBoards). s.mending) begun ∙ (mending ∙ none))
              (ap (λ (s : MendingBoards). board_out s.pair) begun ∙ verdict_out f v lone.board none lone.out);
        }

struck_none : (s : MendingBoards) (fault : BoardFault) → s.mending ≡ None → (mending_struck s fault).mending ≡ None
struck_none s fault none = by_end (ends_mending s.mending fault)
  where
    by_end : (b : Bool) → (struck_if b s fault).mending ≡ None
    by_end true = refl
    by_end false = none

step_none : (d : TriplexState) (s : TriplexStep) → IsTriplexState r2000_triplex d → d.boards.mending ≡ None → is_mend s ≡ false → (stepped r2000_triplex d s).boards.mending ≡ None
step_none d (clock_tick mask) h none is = tick_none d mask h none
step_none d (script_act (EventAct event)) h none is = unless_boards _ d _ refl ∙ none
step_none d (script_act (Poke p w v)) h none is = none
step_none d (script_act (PokeLocal p i v)) h none is = none
step_none d (script_act (Drive p posted)) h none is = none
step_none d (script_act (Mute p)) h none is = none
step_none d (script_act (Remove p)) h none is = none
step_none d (script_act (Revive p)) h none is = unless_boards (is_revivable p d) d (revived p d) refl ∙ none
step_none d (script_act (Board fault)) h none is = struck_none d.boards fault none
step_none d (script_act (Mend board)) h none is = absurd cc

unless_lone : (b : Bool) (d e : TriplexState) → e.boards ≡ d.boards → IsLone d.boards → IsLone (if b then e else d).boards
unless_lone true d e same lone = subst IsLone (sym same) lone
unless_lone false d e same lone = lone

step_lone : (d : TriplexState) (s : TriplexStep) → IsTriplexState r2000_triplex d → d.boards.mending ≡ None → IsLone d.boards → is_mend s ≡ false → step_refusal d s ≡ None → IsLone (stepped r2000_triplex d s).boards
step_lone d (clock_tick mask) h none lone is lawful = tick_lone d mask h none lone
step_lone d (script_act (EventAct event)) h none lone is lawful = unless_lone _ d _ refl lone
step_lone d (script_act (Poke p w v)) h none lone is lawful = lone
step_lone d (script_act (PokeLocal p i v)) h none lone is lawful = lone
step_lone d (script_act (Drive p posted)) h none lone is lawful = lone
step_lone d (script_act (Mute p)) h none lone is lawful = lone
step_lone d (script_act (Remove p)) h none lone is lawful = lone
step_lone d (script_act (Revive p)) h none lone is lawful = unless_lone (is_revivable p d) d (revived p d) refl lone
step_lone d (script_act (Board fault)) h none lone is lawful = absurd (no_fault d.boards fault lone none (tolerated_by d fault lawful))
step_lone d (script_act (Mend board)) h none lone is lawful = absurd cc

-- ---- a machine beside one without begins of mendings

record Beside (d e : TriplexState) : Type 0 where
  equal : EqualButBoards d e
  none : e.boards.mending ≡ None
  boards : (d ≡ e) ⊎ IsLone e.boards

-- of the boards a refusal reads at faults of a board alone
refusal_lone : (d : TriplexState) (w : MendingBoards) (s : TriplexStep) → w.mending ≡ None → IsLone w → step_refusal (with_boards w d) s ≡ None → step_refusal d s ≡ None
refusal_lone d w (clock_tick mask) none lone h = h
refusal_lone d w (script_act (EventAct event)) none lone h = h
refusal_lone d w (script_act (Poke p k v)) none lone h = h
refusal_lone d w (script_act (PokeLocal p i v)) none lone h = h
refusal_lone d w (script_act (Drive p posted)) none lone h = h
refusal_lone d w (script_act (Mute p)) none lone h = h
refusal_lone d w (script_act (Remove p)) none lone h = h
refusal_lone d w (script_act (Revive p)) none lone h = h
refusal_lone d w (script_act (Board fault)) none lone h = absurd (no_fault w fault lone none (tolerated_by (with_boards w d) fault h))
refusal_lone d w (script_act (Mend board)) none lone h = h

lawful_beside : (d e : TriplexState) (s : TriplexStep) → Beside d e → step_refusal e s ≡ None → step_refusal d s ≡ None
lawful_beside d e s b lawful = elim b.boards [
  | inl same ↦ subst (λ (x : TriplexState). step_refusal x s ≡ None) (sym same) lawful
  | inr lone ↦ refusal_lone d e.boards s b.none lone (subst (λ (x : TriplexState). step_refusal x s ≡ None) b.equal.rest lawful)
]

left_in : (w : MendingBoards) (d : TriplexState) (s : TriplexStep) → has_ticks_left (with_boards w d) s ≡ has_ticks_left d s
left_in w d (clock_tick mask) = refl
left_in w d (script_act act) = refl

takes : (d : TriplexState) (s : TriplexStep) → d.halt ≡ None → has_ticks_left d s ≡ true → step_refusal d s ≡ None → takes_step r2000_triplex d s ≡ true
takes d s halt left lawful =
    and_true (not (is_some d.halt) && has_ticks_left d s) (is_accepted (unless_refused (step_refusal d s) (step_turn r2000_triplex d s)))
    (and_true (not (is_some d.halt)) (has_ticks_left d s) (ap (λ (o : Option ℕ). not (is_some o)) halt) left)
    (ap (λ (r : Option Reason). is_accepted (unless_refused r (step_turn r2000_triplex d s))) lawful)

halt_beside : (d e : TriplexState) → Beside d e → e.halt ≡ None → d.halt ≡ None
halt_beside d e b halt = sym (ap (λ (x : TriplexState). x.halt) b.equal.rest) ∙ halt

takes_beside : (d e : TriplexState) (s : TriplexStep) → Beside d e → Taken r2000_triplex e s → takes_step r2000_triplex d s ≡ true
takes_beside d e s b t =
    takes d s (halt_beside d e b t.halt) (sym (ap (λ (x : TriplexState). has_ticks_left x s) b.equal.rest ∙ left_in e.boards d s) ∙ t.left) (lawful_beside d e s b t.lawful)

-- a step of both
both_beside : (d e : TriplexState) (s : TriplexStep) → IsTriplexState r2000_triplex d → IsTriplexState r2000_triplex e → IsStepCall s → is_mend s ≡ false → Beside d e → Taken r2000_triplex e s → Beside (stepped r2000_triplex d s) (stepped r2000_triplex e s)
both_beside d e s hd he call is b t = record {
  equal = (steps_ignore_boards r2000_triplex d e s r2000_triplex_core hd.invariant.masking.agreement.boards he.invariant.masking.agreement.boards b.equal call (lawful_beside d e s b t.lawful) t.lawful).states;
  none = step_none e s he b.none is;
  boards = elim b.boards [
    | inl same ↦ inl (ap (λ (x : TriplexState). stepped r2000_triplex x s) same)
    | inr lone ↦ inr (step_lone e s he b.none lone is t.lawful)
  ];
}

-- the begin of a mending in the one
mend_beside : (d e : TriplexState) (board : ℕ) → Beside d e → Beside (mend_begun board d) e
mend_beside d e board b = record { equal = mend_alike d e board b.equal; none = b.none; boards = by_begin (mending_begins board d.boards) refl }
  where
    by_begin : (t : Bool) → mending_begins board d.boards ≡ t → (with_boards (if t then record d.boards { mending = Some (record { board = board; cursor = 0 }) } else d.boards) d ≡ e) ⊎ IsLone e.boards
    by_begin true begins = elim b.boards [
      | inl same ↦ inr (record { board = board; out = ap (λ (x : TriplexState). board_out x.boards.pair) (sym same) ∙ begins_out board d.boards.pair d.boards.mending begins })
      | inr lone ↦ inr lone
    ]
    by_begin false begins = elim b.boards [ inl same ↦ inl same | inr lone ↦ inr lone ]

-- a machine that has not halted after some steps had not before
running_before : (d : TriplexState) (steps : List TriplexStep) → all_taken r2000_triplex d steps ≡ true → (after_all r2000_triplex d steps).halt ≡ None → d.halt ≡ None
running_before d [] taken halt = halt
running_before d (s ∷ steps) taken halt = (taken_tells r2000_triplex d s (both_true (takes_step r2000_triplex d s) (all_taken r2000_triplex (next_after_step r2000_triplex d s) steps) taken).0).halt

goes_on : (steps : List TriplexStep) (d e : TriplexState) → All IsStepCall steps → IsTriplexState r2000_triplex d → IsTriplexState r2000_triplex e → Beside d e → all_taken r2000_triplex e (without_mends steps) ≡ true → (after_all r2000_triplex e (without_mends steps)).halt ≡ None →
    all_taken r2000_triplex d steps ≡ true
goes_on [] d e calls hd he b taken halt = refl
goes_on (s ∷ steps) d e calls hd he b taken halt =
    by_kind (is_mend s) refl taken halt
    (λ x hx bx t h. goes_on steps x e (All-tail IsStepCall s steps calls) hx he bx t h)
    (λ x y hx hy bxy t h. goes_on steps x y (All-tail IsStepCall s steps calls) hx hy bxy t h)
  where
    call : IsStepCall s
    call = All-head IsStepCall s steps calls

    by_kind : (t : Bool) → is_mend s ≡ t → all_taken r2000_triplex e (if t then without_mends steps else s ∷ without_mends steps) ≡ true → (after_all r2000_triplex e (if t then without_mends steps else s ∷ without_mends steps)).halt ≡ None →
        ((x : TriplexState) → IsTriplexState r2000_triplex x → Beside x e → all_taken r2000_triplex e (without_mends steps) ≡ true → (after_all r2000_triplex e (without_mends steps)).halt ≡ None → all_taken r2000_triplex x steps ≡ true) →
        ((x y : TriplexState) → IsTriplexState r2000_triplex x → IsTriplexState r2000_triplex y → Beside x y → all_taken r2000_triplex y (without_mends steps) ≡ true → (after_all r2000_triplex y (without_mends steps)).halt ≡ None → all_taken r2000_triplex x steps ≡ true) →
        all_taken r2000_triplex d (s ∷ steps) ≡ true
    by_kind true is taken halt alone together =
        let m = mend_is s is in
        let running = halt_beside d e b (running_before e (without_mends steps) taken halt) in
        let left : has_ticks_left d s ≡ true = subst (λ (z : TriplexStep). has_ticks_left d z ≡ true) (sym m.1) refl in
        let lawful : step_refusal d s ≡ None = subst (λ (z : TriplexStep). step_refusal d z ≡ None) (sym m.1) refl in
        let t : Taken r2000_triplex d s = record { halt = running; left = left; lawful = lawful } in
        let next : next_after_step r2000_triplex d s ≡ mend_begun m.0 d = next_is r2000_triplex d s lawful ∙ ap (stepped r2000_triplex d) m.1 in
        and_true (takes_step r2000_triplex d s) (all_taken r2000_triplex (next_after_step r2000_triplex d s) steps) (takes d s running left lawful)
        (alone (next_after_step r2000_triplex d s) (keeps_state r2000_triplex r2000_triplex_core d s hd call t) (subst (λ (x : TriplexState). Beside x e) (sym next) (mend_beside d e m.0 b)) taken halt)
    by_kind false is taken halt alone together =
        let both = both_true (takes_step r2000_triplex e s) (all_taken r2000_triplex (next_after_step r2000_triplex e s) (without_mends steps)) taken in
        let te = taken_tells r2000_triplex e s both.0 in
        let here = takes_beside d e s b te in
        let td = taken_tells r2000_triplex d s here in
        let beside = subst (λ (x : TriplexState). Beside x (next_after_step r2000_triplex e s)) (sym (next_is r2000_triplex d s td.lawful))
        (subst (λ (y : TriplexState). Beside (stepped r2000_triplex d s) y) (sym (next_is r2000_triplex e s te.lawful)) (both_beside d e s hd he call is b te)) in
        and_true (takes_step r2000_triplex d s) (all_taken r2000_triplex (next_after_step r2000_triplex d s) steps) here
        (together (next_after_step r2000_triplex d s) (next_after_step r2000_triplex e s) (keeps_state r2000_triplex r2000_triplex_core d s hd call td) (keeps_state r2000_triplex r2000_triplex_core e s he call te) beside both.1 halt)

pub mends_go_on_as_far : MendsGoOnAsFar
mends_go_on_as_far frame entry local global steps f size boards calls taken halt =
    let d = started_triplex frame entry local global in
    let h = start_is_state r2000_triplex frame entry local global r2000_triplex_core f size boards in
    goes_on steps d d calls h h (record { equal = record { rest = refl; memory = refl }; none = refl; boards = inl refl }) taken halt

-- A mending is a count of idle turns, and has its end with the last of them.
use Rattle.std.proofs.Common.{◌≡◌, ◌≢◌, ℕ, ◌+◌, ◌<◌, List, [], ◌∷◌, refl, sym, ap, subst, ◌∙◌, arith}
use Rattle.std.specs.Prelude.{Bool, true, false, not, ◌==◌, ◌&&◌, ◌||◌, Some, None, if◌then◌else◌}
use Rattle.std.specs.List.{All}
use Rattle.std.specs.declared.option.Option.{Option}
use Rattle.std.proofs.lemmas.Bool.Decides.{nat_tests}
use Rattle.std.proofs.lemmas.List.Elements.{All-head, All-tail}
use Rattle.s2_base.specs.declared.map.TheConstants.{GLOBAL_WORDS}
use Rattle.s2_ports.specs.declared.events.BoardFault.{BoardFault}
use Rattle.s2_ports.specs.declared.events.BoardFault.TheVariants.{Dead, Flip}
use Rattle.s2_ports.specs.declared.requests.Request.{Request}
use Rattle.s2_ports.specs.declared.requests.Kind.{Kind}
use Rattle.s2_ports.specs.declared.requests.Kind.TheVariants.{Load, Store, Sync}
use Rattle.s2_duplex.specs.DuplexBoards.{BoardPair}
use Rattle.s2_duplex.specs.MendedBoards.{board_out}
use Rattle.s2_duplex.specs.ToleratedFaults.{IsFaultBelow, is_tolerated, faulty_board}
use Rattle.s2_revive.specs.declared.revive.Mending.{Mending}
use Rattle.s2_revive.specs.MendingBoards.{MendingBoards, IsMending, IsMendingIn, AreMendingBoards, begins_in, has_more, copied_more, idled_in, boards_idled, unless_more, mended_by}
use Rattle.s2_revive.specs.MendingFaults.{is_mending_board, ends_mending, is_fault_tolerated}
use Rattle.s2_revive.proofs.MendedParity.{mended_tolerates}
use Rattle.s2_revive.proofs.MendingMemory.{not_tolerated, joined_out}
use Rattle.s2_voter.specs.declared.verdicts.Verdict.{Verdict}
use Rattle.s2_voter.specs.declared.verdicts.Verdict.TheVariants.{Waiting, Done, Split}
use Rattle.s2_script.specs.declared.entry.Act.{Act}
use Rattle.s2_script.specs.declared.entry.Act.TheVariants.{Event as EventAct, Poke, PokeLocal, Drive, Mute, Remove, Revive, Board, Mend}
use Rattle.s2_triplex.specs.TriplexCores.{TriplexCore, IsTriplexCore}
use Rattle.s2_triplex.specs.TriplexState.{TriplexState}
use Rattle.s2_triplex.specs.TickFirings.{after_firings}
use Rattle.s2_triplex.specs.VotedAccess.{access_of_kind}
use Rattle.s2_triplex.specs.VoterDecision.{no_effects, after_verdict, tick_verdict, voted, is_idle_verdict, is_sync_verdict}
use Rattle.s2_triplex.specs.CopyHolds.{hold_begun_if, is_holding, after_idle_tick, after_hold_tick}
use Rattle.s2_triplex.specs.TickStep.{boards_idled_if, after_working_tick, ticked}
use Rattle.s2_triplex.specs.ActStep.{is_revivable, revived, acted}
use Rattle.s2_triplex.specs.StepRefusals.{act_refusal}
use Rattle.s2_triplex.specs.StepTurns.{hold_turn, working_turn, mended_notes, turn_notes}
use Rattle.s2_triplex.specs.TriplexSteps.{TriplexStep, clock_tick, script_act, step_refusal, stepped, next_after_step}
use Rattle.s2_triplex_laws.specs.TriplexStates.{IsTriplexState}
use Rattle.s2_triplex_laws.specs.TriplexExecutions.{IsStepCall, takes_step}
use Rattle.s2_triplex_laws.specs.BoardMending.{all_taken, is_idle_step, after_all, one_if, idle_turns, NeverDies, IsMendedUpTo, MendingCountsIdleTurns, EndsMending, MendingEnds}
use Rattle.s2_journal.specs.declared.note.Reason.TheVariants.{BothBoards}
use Rattle.s2_triplex_laws.specs.MendingGoesOn.{MendedBoardsMayFail}
use Rattle.s2_triplex_laws.proofs.LawfulSteps.{tolerated_by}
use Rattle.s2_triplex_laws.proofs.BoardMending.{copied_moved, begun_if_moved}
use Rattle.s2_triplex_laws.proofs.MendedRuns.{both_true, Taken, taken_tells, next_is, keeps_state}

clash : (b : Bool) → b ≡ true → b ≡ false → ⊥
clash b x y = cc

-- ---- what a tick does to the boards

access_mending : (k : TriplexCore) (c : IsTriplexCore k) (d : TriplexState) (r : Request) (kind : Kind) → AreMendingBoards d.boards → (access_of_kind k d r kind).boards.mending ≡ d.boards.mending
access_mending k c d r Sync boards = refl
access_mending k c d r Load boards = (c.boards d.boards d.device r boards).mending
access_mending k c d r Store boards = (c.boards d.boards d.device r boards).mending

pub verdict_mending : (k : TriplexCore) (c : IsTriplexCore k) (d : TriplexState) (v : Verdict) → AreMendingBoards d.boards → (after_verdict k d v).next.boards.mending ≡ d.boards.mending
verdict_mending k c d Waiting boards = refl
verdict_mending k c d Split boards = refl
verdict_mending k c d (Done r differ late) boards = access_mending k c d r r.kind boards

idle_boards : (k : TriplexCore) (d : TriplexState) (v : Verdict) → is_idle_verdict v ≡ true → (after_verdict k d v).next.boards ≡ d.boards
idle_boards k d Waiting h = refl
idle_boards k d Split h = refl
idle_boards k d (Done r differ late) h = absurd cc

-- a tick, by whether the voter's turn is idle
pub record TickMends (d e : TriplexState) (idle : Bool) : Type 0 where
  pub busy : idle ≡ false → e.boards.mending ≡ d.boards.mending
  pub idle_turn : idle ≡ true → e.boards ≡ boards_idled d.boards

pub tick_mends : (k : TriplexCore) (c : IsTriplexCore k) (d : TriplexState) (mask : ℕ) → AreMendingBoards d.boards → TickMends d (ticked k d mask).next (is_idle_step k d (clock_tick mask))
tick_mends k c d mask boards = by_hold (is_holding d.reintegration)
  where
    begun : (v : Verdict) → (hold_begun_if (is_sync_verdict v) (after_verdict k (after_firings k d mask) v).next).boards ≡ (after_verdict k (after_firings k d mask) v).next.boards
    begun v = (begun_if_moved d.boards (is_sync_verdict v) (after_verdict k (after_firings k d mask) v).next).same

    by_idle : (v : Verdict) (b : Bool) → is_idle_verdict v ≡ b → TickMends d (record (hold_begun_if (is_sync_verdict v) (after_verdict k (after_firings k d mask) v).next) { boards = boards_idled_if b (hold_begun_if (is_sync_verdict v) (after_verdict k (after_firings k d mask) v).next).boards }) b
    by_idle v true is = record {
      busy = λ h. absurd (clash false (sym h) refl);
      idle_turn = λ h. ap boards_idled (begun v ∙ idle_boards k (after_firings k d mask) v is);
    }
    by_idle v false is = record {
      busy = λ h. ap (λ (s : MendingBoards). s.mending) (begun v) ∙ verdict_mending k c (after_firings k d mask) v boards;
      idle_turn = λ h. absurd (clash false h refl);
    }

    by_hold : (b : Bool) → TickMends d (if b then record { next = after_hold_tick d mask; effects = no_effects } else after_working_tick k d mask).next (not b && is_idle_verdict (tick_verdict k d mask))
    by_hold true = record {
      busy = λ h. ap (λ (s : MendingBoards). s.mending) (copied_moved d.boards (after_idle_tick d mask) d.reintegration).same;
      idle_turn = λ h. absurd (clash false h refl);
    }
    by_hold false = by_idle (tick_verdict k d mask) (is_idle_verdict (tick_verdict k d mask)) refl

-- ---- what an act does to them

mends_there : (s : MendingBoards) (m : Mending) → AreMendingBoards s → s.mending ≡ Some m → IsMending s.pair m
mends_there s m boards is = subst (IsMendingIn s.pair) is boards.mending

no_fault : (s : MendingBoards) (m : Mending) (fault : BoardFault) → AreMendingBoards s → s.mending ≡ Some m → fault ≢ Dead m.board → is_fault_tolerated s fault ≡ true → ⊥
no_fault s m (Flip board index bit) boards is other tolerated = clash (is_tolerated s.pair (Flip board index bit)) tolerated (not_tolerated s.pair m.board (Flip board index bit) (mends_there s m boards is).out)
no_fault s m (Dead board) boards is other tolerated =
    by_board (m.board == board) refl (ap (λ (o : Option Mending). is_mending_board board o || is_tolerated s.pair (Dead board)) (sym is) ∙ tolerated)
  where
    by_board : (b : Bool) → (m.board == board) ≡ b → (b || is_tolerated s.pair (Dead board)) ≡ true → ⊥
    by_board true e h = other (ap (λ (n : ℕ). Dead n) (let same : board ≡ m.board = grind (arith, nat_tests) in same))
    by_board false e h = clash (is_tolerated s.pair (Dead board)) h (not_tolerated s.pair m.board (Dead board) (mends_there s m boards is).out)

pub unless_boards : (b : Bool) (d e : TriplexState) → e.boards ≡ d.boards → (if b then e else d).boards.mending ≡ d.boards.mending
unless_boards true d e same = ap (λ (s : MendingBoards). s.mending) same
unless_boards false d e same = refl

act_mends : (d : TriplexState) (m : Mending) (act : Act) → AreMendingBoards d.boards → d.boards.mending ≡ Some m → act ≢ Board (Dead m.board) → act_refusal d act ≡ None → (acted act d).boards.mending ≡ Some m
act_mends d m (EventAct event) boards is other lawful = unless_boards _ d _ refl ∙ is
act_mends d m (Poke p w v) boards is other lawful = is
act_mends d m (PokeLocal p i v) boards is other lawful = is
act_mends d m (Drive p posted) boards is other lawful = is
act_mends d m (Mute p) boards is other lawful = is
act_mends d m (Remove p) boards is other lawful = is
act_mends d m (Revive p) boards is other lawful = unless_boards (is_revivable p d) d (revived p d) refl ∙ is
act_mends d m (Board fault) boards is other lawful = absurd (no_fault d.boards m fault boards is (λ e. other (ap (λ (f : BoardFault). Board f) e)) (tolerated_by d fault lawful))
act_mends d m (Mend board) boards is other lawful =
    ap (λ (b : Bool). (let s : MendingBoards = if b then record d.boards { mending = Some (record { board = board; cursor = 0 }) } else d.boards in s).mending) (ap (begins_in board d.boards.pair) is) ∙ is

-- ---- one step

record StepMends (k : TriplexCore) (d : TriplexState) (s : TriplexStep) (m : Mending) : Type 0 where
  busy : is_idle_step k d s ≡ false → (stepped k d s).boards.mending ≡ Some m
  idle : is_idle_step k d s ≡ true → m.cursor + 1 < GLOBAL_WORDS → (stepped k d s).boards.mending ≡ Some (record { board = m.board; cursor = m.cursor + 1 })

more_mending : (s : BoardPair) (m : Mending) → m.cursor + 1 < GLOBAL_WORDS → (idled_in s (Some m)).mending ≡ Some (record { board = m.board; cursor = m.cursor + 1 })
more_mending s m less = ap (λ (b : Bool). (copied_more s m b).mending) (let e : has_more m ≡ true = grind (arith, nat_tests) in e)

step_mends : (k : TriplexCore) (c : IsTriplexCore k) (d : TriplexState) (s : TriplexStep) (m : Mending) → AreMendingBoards d.boards → d.boards.mending ≡ Some m → s ≢ script_act (Board (Dead m.board)) → step_refusal d s ≡ None → StepMends k d s m
step_mends k c d (clock_tick mask) m boards is other lawful =
    let t = tick_mends k c d mask boards in
    record {
      busy = λ h. t.busy h ∙ is;
      idle = λ h less. ap (λ (s : MendingBoards). s.mending) (t.idle_turn h) ∙ (ap (λ (o : Option Mending). (idled_in d.boards.pair o).mending) is ∙ more_mending d.boards.pair m less);
    }
step_mends k c d (script_act act) m boards is other lawful = record {
  busy = λ h. act_mends d m act boards is (λ e. other (ap (λ (a : Act). script_act a) e)) lawful;
  idle = λ h less. absurd (clash false h refl);
}

-- ---- a list of steps

record CountsTo (k : TriplexCore) (e : TriplexState) (board n : ℕ) : Type 0 where
  state : IsTriplexState k e
  mending : e.boards.mending ≡ Some (record { board = board; cursor = n })

counted : (k : TriplexCore) (c : IsTriplexCore k) (board : ℕ) (steps : List TriplexStep) (d : TriplexState) (n : ℕ) → IsTriplexState k d → All IsStepCall steps → d.boards.mending ≡ Some (record { board = board; cursor = n }) → all_taken k d steps ≡ true → NeverDies board steps →
    n + idle_turns k d steps < GLOBAL_WORDS → CountsTo k (after_all k d steps) board (n + idle_turns k d steps)
counted k c board [] d n h calls is taken never room = record { state = h; mending = is ∙ ap (λ (i : ℕ). Some (record { board = board; cursor = i })) (let e : n ≡ n + 0 = omega arith in e) }
counted k c board (s ∷ steps) d n h calls is taken never room =
    by_idle (is_idle_step k d s) refl
    (λ i at low. counted k c board steps (next_after_step k d s) i state (All-tail IsStepCall s steps calls) at on.1 (All-tail (λ z. z ≢ script_act (Board (Dead board))) s steps never) low) room
  where
    on : (takes_step k d s ≡ true) × (all_taken k (next_after_step k d s) steps ≡ true)
    on = both_true (takes_step k d s) (all_taken k (next_after_step k d s) steps) taken

    t : Taken k d s
    t = taken_tells k d s on.0

    next : next_after_step k d s ≡ stepped k d s
    next = next_is k d s t.lawful

    m : StepMends k d s (record { board = board; cursor = n })
    m = step_mends k c d s (record { board = board; cursor = n }) h.invariant.masking.agreement.boards is (All-head (λ z. z ≢ script_act (Board (Dead board))) s steps never) t.lawful

    state : IsTriplexState k (next_after_step k d s)
    state = keeps_state k c d s h (All-head IsStepCall s steps calls) t

    by_idle : (b : Bool) → is_idle_step k d s ≡ b →
        ((i : ℕ) → (next_after_step k d s).boards.mending ≡ Some (record { board = board; cursor = i }) → i + idle_turns k (next_after_step k d s) steps < GLOBAL_WORDS →
        CountsTo k (after_all k (next_after_step k d s) steps) board (i + idle_turns k (next_after_step k d s) steps)) → n + (one_if b + idle_turns k (next_after_step k d s) steps) < GLOBAL_WORDS →
        CountsTo k (after_all k (next_after_step k d s) steps) board (n + (one_if b + idle_turns k (next_after_step k d s) steps))
    by_idle false e more low =
        subst (λ (i : ℕ). CountsTo k (after_all k (next_after_step k d s) steps) board i) (let same : n + idle_turns k (next_after_step k d s) steps ≡ n + (0 + idle_turns k (next_after_step k d s) steps) = omega arith in same)
        (more n (ap (λ (x : TriplexState). x.boards.mending) next ∙ m.busy e) (omega arith))
    by_idle true e more low =
        subst (λ (i : ℕ). CountsTo k (after_all k (next_after_step k d s) steps) board i) (let same : (n + 1) + idle_turns k (next_after_step k d s) steps ≡ n + (1 + idle_turns k (next_after_step k d s) steps) = omega arith in same)
        (more (n + 1) (ap (λ (x : TriplexState). x.boards.mending) next ∙ m.idle e (omega arith)) (omega arith))

-- the words below the cursor
mended_up_to : (s : MendingBoards) (board n : ℕ) → AreMendingBoards s → s.mending ≡ Some (record { board = board; cursor = n }) →
    IsMendedUpTo s board n
mended_up_to s board n boards is =
    let m = mends_there s (record { board = board; cursor = n }) boards is in
    record { mending = is; out = m.out; words = λ i low. (m.words i low).0; parity = λ i low. (m.words i low).1 }

pub mending_counts_idle_turns : MendingCountsIdleTurns
mending_counts_idle_turns k d board steps c h calls is taken never room =
    let e = counted k c board steps d 0 h calls is taken never (omega arith) in
    let same : 0 + idle_turns k d steps ≡ idle_turns k d steps = omega arith in
    subst (IsMendedUpTo (after_all k d steps).boards board) same
    (mended_up_to (after_all k d steps).boards board (0 + idle_turns k d steps) e.state.invariant.masking.agreement.boards e.mending)

-- ---- the end

idle_tells : (k : TriplexCore) (d : TriplexState) (mask : ℕ) → is_idle_step k d (clock_tick mask) ≡ true → (is_holding d.reintegration ≡ false) × (is_idle_verdict (tick_verdict k d mask) ≡ true)
idle_tells k d mask h = by_hold (is_holding d.reintegration) h
  where
    by_hold : (b : Bool) → (not b && is_idle_verdict (tick_verdict k d mask)) ≡ true → (b ≡ false) × (is_idle_verdict (tick_verdict k d mask) ≡ true)
    by_hold true h = absurd cc
    by_hold false h = (refl, h)

last_word : (k : TriplexCore) (c : IsTriplexCore k) (d : TriplexState) (s : TriplexStep) (m : Mending) → AreMendingBoards d.boards → d.boards.mending ≡ Some m → m.cursor + 1 ≡ GLOBAL_WORDS → is_idle_step k d s ≡ true → EndsMending k d s m.board
last_word k c d (script_act act) m boards is last idle = absurd (clash false idle refl)
last_word k c d (clock_tick mask) m boards is last idle =
    let tells = idle_tells k d mask idle in
    let none : has_more m ≡ false = grind (arith, nat_tests) in
    let mends = mends_there d.boards m boards is in
    let at : (ticked k d mask).next.boards ≡ copied_more d.boards.pair m false =
    (tick_mends k c d mask boards).idle_turn idle ∙ (ap (idled_in d.boards.pair) is ∙ ap (copied_more d.boards.pair m) none) in
    record {
      note =
          ap (λ (b : Bool). (if b then hold_turn d else working_turn k d mask).notes) tells.0
          ∙ (ap (λ (b : Bool). turn_notes b (d.ticks + 1) (mended_by d.boards.mending) (voted k d mask).effects) tells.1
          ∙ (ap (λ (o : Option Mending). mended_notes (d.ticks + 1) (mended_by o)) is ∙ ap (λ (b : Bool). mended_notes (d.ticks + 1) (unless_more m.board b)) none));
      ended = ap (λ (s : MendingBoards). s.mending) at;
      both = ap (λ (s : MendingBoards). board_out s.pair) at ∙ joined_out d.boards.pair m.board m.cursor mends.out boards.duplex;
    }

pub mending_ends : MendingEnds
mending_ends k d board steps s c h calls is taken never idle last =
    let e = counted k c board steps d 0 h calls is taken never (omega arith) in
    last_word k c (after_all k d steps) s (record { board = board; cursor = 0 + idle_turns k d steps }) e.state.invariant.masking.agreement.boards e.mending (omega arith) idle

-- then any fault of either board is lawful
fault_after : (k : TriplexCore) (c : IsTriplexCore k) (d : TriplexState) (s : TriplexStep) (m : Mending) (fault : BoardFault) → AreMendingBoards d.boards → d.boards.mending ≡ Some m → m.cursor + 1 ≡ GLOBAL_WORDS → is_idle_step k d s ≡ true → IsFaultBelow GLOBAL_WORDS fault →
    step_refusal (stepped k d s) (script_act (Board fault)) ≡ None
fault_after k c d (script_act act) m fault boards is last idle below = absurd (clash false idle refl)
fault_after k c d (clock_tick mask) m fault boards is last idle below =
    let none : has_more m ≡ false = grind (arith, nat_tests) in
    let at : (ticked k d mask).next.boards ≡ copied_more d.boards.pair m false =
    (tick_mends k c d mask boards).idle_turn idle ∙ (ap (idled_in d.boards.pair) is ∙ ap (copied_more d.boards.pair m) none) in
    let tolerated = mended_tolerates d.boards.pair m boards.duplex (mends_there d.boards m boards is) last fault below in
    ap (λ (b : Bool). if b then None else Some (BothBoards (faulty_board fault))) (ap (λ (s : MendingBoards). is_fault_tolerated s fault) at ∙ (none_ends fault _ ∙ tolerated))
  where
    none_ends : (fault : BoardFault) (b : Bool) → (ends_mending None fault || b) ≡ b
    none_ends (Dead board) b = refl
    none_ends (Flip board index bit) b = refl

pub mended_boards_may_fail : MendedBoardsMayFail
mended_boards_may_fail k d board steps s fault c h calls is taken never idle last below =
    let e = counted k c board steps d 0 h calls is taken never (omega arith) in
    fault_after k c (after_all k d steps) s (record { board = board; cursor = 0 + idle_turns k d steps }) fault e.state.invariant.masking.agreement.boards e.mending (omega arith) idle below

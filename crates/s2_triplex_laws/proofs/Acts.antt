-- What acts and faults keep: latch agreement, replica equality, and the reference machine.
use Rattle.std.proofs.Common.{◌≡◌, ℕ, zero, suc, ◌+◌, ◌<◌, ◌≢◌, [], ◌∷◌, ◌++◌, length, length-append, refl, sym, ap, subst, inl, inr, ◌∙◌, arith}
use Rattle.std.specs.Prelude.{Bool, true, false, not, ◌==◌, ◌&&◌, nat_lt, Some, None, ◌⊎◌, if◌then◌else◌}
use Rattle.std.specs.declared.option.Option.{Option}
use Rattle.std.proofs.lemmas.Bool.Decides.{nat_tests}
use Rattle.s2_ports.specs.declared.events.BoardFault.{BoardFault}
use Rattle.s2_ports.specs.declared.events.Event.{Event}
use Rattle.s2_ports.specs.declared.requests.Posted.{Posted}
use Rattle.s2_device.specs.DeviceState.{lines_of}
use Rattle.s2_revive.specs.MendingBoards.{MendingBoards, AreMendingBoards, memory_of}
use Rattle.s2_revive.specs.MendingFaults.{mending_struck}
use Rattle.s2_voter.specs.VoterState.{is_member, latch_of}
use Rattle.s2_triplex.specs.ActStep.{board_struck, event_received, module_disturbed, module_replaced, removed}
use Rattle.s2_triplex.specs.ModuleState.{ModuleState, Replica, is_frame_end, replica_of}
use Rattle.s2_triplex.specs.TriplexCores.{TriplexCore}
use Rattle.s2_triplex.specs.TriplexState.{TriplexState, is_good, is_in, membership_at, module_at}
use Rattle.s2_triplex.specs.VoterDecision.{membership_unless_left}
use Rattle.s2_triplex.specs.declared.membership.Membership.{Membership}
use Rattle.s2_triplex.specs.declared.numbers.TheConstants.{INBOX_EVENTS}
use Rattle.s2_triplex_laws.specs.LatchAgreement.{IsGood, IsOwnPort, LatchAgreement}
use Rattle.s2_triplex_laws.specs.ReplicaEquality.{ReachedByCycles, ReplicaEquality}
use Rattle.s2_triplex_laws.proofs.Firings.{StepGoesOn}
use Rattle.s2_triplex_laws.proofs.LatchCounts.{voter_left}

-- who is good after a fault of p was good before
pub good_before : (t : Option ℕ) (p q : ℕ) → (t ≡ None) ⊎ (t ≡ Some p) → is_good (Some p) q ≡ true → is_good t q ≡ true
good_before t p q (inl e) g = subst (λ (x : Option ℕ). is_good x q ≡ true) (sym e) refl
good_before t p q (inr e) g = subst (λ (x : Option ℕ). is_good x q ≡ true) (sym e) g

pub other_one : (p q : ℕ) → is_good (Some p) q ≡ true → p ≢ q
other_one p q g e = clash (p == q) refl g
  where
    clash : (b : Bool) → (p == q) ≡ b → not b ≡ true → ⊥
    clash true x y = cc
    clash false x y = grind (arith, nat_tests)

-- what an act changes at most: it leaves the frame, time, the contents of global memory, the devices and every good module
pub record ActEffect (d e : TriplexState) : Type 0 where
  pub frame : e.frame ≡ d.frame
  pub ticks : e.ticks ≡ d.ticks
  pub resumed : e.resumed ≡ d.resumed
  pub resumed_run : e.resumed_run ≡ d.resumed_run
  pub halt : e.halt ≡ d.halt
  pub global : memory_of e.boards ≡ memory_of d.boards
  pub device : e.device ≡ d.device
  pub good : (q : ℕ) → q < 3 → IsGood e q → IsGood d q
  pub modules : (q : ℕ) → q < 3 → IsGood e q → module_at e.modules q ≡ module_at d.modules q

reached_moved : (k : TriplexCore) (start : Replica) (x y s t : ℕ) (m n : ModuleState) → y ≡ x → t ≡ s → n ≡ m → ReachedByCycles k start x s m → ReachedByCycles k start y t n
reached_moved k start x y s t m n ex et en h =
    subst (λ (u : ℕ). ReachedByCycles k start u t n) (sym ex) (subst (λ (u : ℕ). ReachedByCycles k start x u n) (sym et) (subst (λ (w : ModuleState). ReachedByCycles k start x s w) (sym en) h))

act_equal : (k : TriplexCore) (d e : TriplexState) (a : ReplicaEquality k d) → ActEffect d e → ReplicaEquality k e
act_equal k d e a h =
    let low = a.low in
    let room = a.room in
    let ticks = h.ticks in
    let resumed = h.resumed in
    let run = h.resumed_run in
    record {
      start = a.start;
      frame = a.frame ∙ sym h.frame;
      at = a.at ∙ sym h.resumed_run;
      ends = λ due. subst (λ (frame : ℕ). is_frame_end frame a.start.cpu.run ≡ true) (sym h.frame) (a.ends due);
      low = omega arith;
      room = omega arith;
      each = λ q hq g. reached_moved k a.start d.resumed e.resumed d.ticks e.ticks (module_at d.modules q) (module_at e.modules q) h.resumed h.ticks (h.modules q hq g) (a.each q hq (h.good q hq g));
    }

pub act_goes_on : (k : TriplexCore) (d e : TriplexState) (a : ReplicaEquality k d) → d.halt ≡ None → ActEffect d e → StepGoesOn k d e a
unfolding act_equal
act_goes_on k d e a halt h = record {
  replicas = act_equal k d e a h;
  continues = record {
    frame = h.frame;
    start = refl;
    halt = halt;
    still = h.halt ∙ halt;
    global = h.global;
    device = h.device;
    good = h.good;
    grows = λ q hq g. let same = ap (λ (m : ModuleState). m.cpu.run) (h.modules q hq g) in omega arith;
  };
}

-- a fault of one processor
pub not_it : (p q : ℕ) → p ≢ q → (p == q) ≡ false
not_it p q ne = grind (arith, nat_tests)

pub replaced_is : (p : ℕ) (m : ModuleState) (d : TriplexState) (q : ℕ) → q < 3 → module_at (module_disturbed p m d).modules q ≡ module_replaced p m d.modules q
replaced_is p m d zero h = refl
replaced_is p m d (suc zero) h = refl
replaced_is p m d (suc (suc zero)) h = refl
replaced_is p m d (suc (suc (suc q))) h = absurd (omega arith)

pub module_stays : (p q : ℕ) (m : ModuleState) (d : TriplexState) → q < 3 → p ≢ q → module_at (module_disturbed p m d).modules q ≡ module_at d.modules q
module_stays p q m d hq ne = replaced_is p m d q hq ∙ ap (λ (b : Bool). if b then m else module_at d.modules q) (not_it p q ne)

pub fault_acts : (p : ℕ) (m : ModuleState) (d : TriplexState) → (d.tainted ≡ None) ⊎ (d.tainted ≡ Some p) → ActEffect d (module_disturbed p m d)
fault_acts p m d who = record {
  frame = refl;
  ticks = refl;
  resumed = refl;
  resumed_run = refl;
  halt = refl;
  global = refl;
  device = refl;
  good = λ q hq g. good_before d.tainted p q who g;
  modules = λ q hq g. module_stays p q m d hq (other_one p q g);
}

pub fault_agrees : (k : TriplexCore) (p : ℕ) (m : ModuleState) (d : TriplexState) → (d.tainted ≡ None) ⊎ (d.tainted ≡ Some p) → LatchAgreement k d → LatchAgreement k (module_disturbed p m d)
fault_agrees k p m d who h = record {
  members = h.members;
  voter = h.voter;
  good = λ q hq g.
      let t = h.good q hq (good_before d.tainted p q who g) in
      let same = sym (module_stays p q m d hq (other_one p q g)) in
      record {
        membership = t.membership;
        awake = subst (λ (x : ModuleState). x.muted ≡ false) same t.awake;
        port = subst (λ (x : ModuleState). IsOwnPort k d.delivered d.accepted (replica_of x) x.port) same t.port;
        latch = subst (λ (x : ModuleState). latch_of d.voter q ≡ x.port) same t.latch;
        lines = subst (λ (x : ModuleState). x.cpu.lines ≡ lines_of d.device) same t.lines;
      };
  inbox = h.inbox;
  frame = h.frame;
  timer = h.timer;
  boards = h.boards;
  room = h.room;
}

-- a removal
pub removal_acts : (p : ℕ) (d : TriplexState) → (d.tainted ≡ None) ⊎ (d.tainted ≡ Some p) → ActEffect d (removed p d)
removal_acts p d who = record {
  frame = refl;
  ticks = refl;
  resumed = refl;
  resumed_run = refl;
  halt = refl;
  global = refl;
  device = refl;
  good = λ q hq g. good_before d.tainted p q who g;
  modules = λ q hq g. refl;
}

pub state_is : (p : ℕ) (d : TriplexState) (q : ℕ) → q < 3 → membership_at (removed p d).memberships q ≡ membership_unless_left (p == q) (membership_at d.memberships q)
state_is p d zero h = refl
state_is p d (suc zero) h = refl
state_is p d (suc (suc zero)) h = refl
state_is p d (suc (suc (suc q))) h = absurd (omega arith)

pub member_is : (p : ℕ) (d : TriplexState) (q : ℕ) → q < 3 → is_member (removed p d).voter q ≡ (not (p == q) && is_member d.voter q)
member_is p d zero h = refl
member_is p d (suc zero) h = refl
member_is p d (suc (suc zero)) h = refl
member_is p d (suc (suc (suc q))) h = absurd (omega arith)

pub latch_is : (p : ℕ) (d : TriplexState) (q : ℕ) → q < 3 → latch_of (removed p d).voter q ≡ (if p == q then None else latch_of d.voter q)
latch_is p d zero h = refl
latch_is p d (suc zero) h = refl
latch_is p d (suc (suc zero)) h = refl
latch_is p d (suc (suc (suc q))) h = absurd (omega arith)

pub left_in : (b : Bool) (s : Membership) (member : Bool) → member ≡ is_in s → (not b && member) ≡ is_in (membership_unless_left b s)
left_in true s member h = refl
left_in false s member h = h

pub removal_agrees : (k : TriplexCore) (p : ℕ) (d : TriplexState) → (d.tainted ≡ None) ⊎ (d.tainted ≡ Some p) → LatchAgreement k d → LatchAgreement k (removed p d)
removal_agrees k p d who h = record {
  members = λ q hq. member_is p d q hq ∙ (left_in (p == q) (membership_at d.memberships q) (is_member d.voter q) (h.members q hq) ∙ ap is_in (sym (state_is p d q hq)));
  voter = voter_left p d.voter h.voter;
  good = λ q hq g.
      let t = h.good q hq (good_before d.tainted p q who g) in
      let is = not_it p q (other_one p q g) in
      record {
        membership = state_is p d q hq ∙ (ap (λ (b : Bool). membership_unless_left b (membership_at d.memberships q)) is ∙ t.membership);
        awake = t.awake;
        port = t.port;
        latch = latch_is p d q hq ∙ (ap (λ (b : Bool). if b then None else latch_of d.voter q) is ∙ t.latch);
        lines = t.lines;
      };
  inbox = h.inbox;
  frame = h.frame;
  timer = h.timer;
  boards = h.boards;
  room = h.room;
}

-- an event that is accepted or lost
pub record EventEffect (k : TriplexCore) (d e : TriplexState) : Type 0 where
  pub acts : ActEffect d e
  pub agreement : LatchAgreement k e

port_more : (k : TriplexCore) (delivered accepted : ℕ) (s : Replica) (port : Option Posted) → IsOwnPort k delivered accepted s port → IsOwnPort k delivered (accepted + 1) s port
port_more k delivered accepted s None h = tt
port_more k delivered accepted s (Some posted) h = let to = h.to in record { own = h.own; from = h.from; to = omega arith }

event_by : (k : TriplexCore) (event : Event) (d : TriplexState) (b : Bool) → nat_lt (length d.inbox) INBOX_EVENTS ≡ b → LatchAgreement k d →
    EventEffect k d (if b then record d { inbox = d.inbox ++ event ∷ []; accepted = d.accepted + 1 } else d)
event_by k event d true less h =
    let inbox = h.inbox in
    let room : length d.inbox < INBOX_EVENTS = grind (arith, nat_tests) in
    let longer : length (d.inbox ++ event ∷ []) ≡ length d.inbox + 1 = length-append d.inbox (event ∷ []) in
    record {
      acts = record { frame = refl; ticks = refl; resumed = refl; resumed_run = refl; halt = refl; global = refl; device = refl; good = λ q hq g. g; modules = λ q hq g. refl };
      agreement = record {
        members = h.members;
        voter = h.voter;
        good = λ q hq g.
            let t = h.good q hq g in
            record {
              membership = t.membership;
              awake = t.awake;
              port = port_more k d.delivered d.accepted (replica_of (module_at d.modules q)) (module_at d.modules q).port t.port;
              latch = t.latch;
              lines = t.lines;
            };
        inbox = omega arith;
        frame = h.frame;
        timer = h.timer;
        boards = h.boards;
        room = omega arith;
      };
    }
event_by k event d false less h =
    record {
      acts = record { frame = refl; ticks = refl; resumed = refl; resumed_run = refl; halt = refl; global = refl; device = refl; good = λ q hq g. g; modules = λ q hq g. refl };
      agreement = h;
    }

pub event_acts : (k : TriplexCore) (event : Event) (d : TriplexState) → LatchAgreement k d → EventEffect k d (event_received event d)
event_acts k event d h = event_by k event d (nat_lt (length d.inbox) INBOX_EVENTS) refl h

-- boards that stand for the same list
pub boards_act : (d : TriplexState) (s : MendingBoards) → memory_of s ≡ memory_of d.boards → ActEffect d (record d { boards = s })
boards_act d s same = record { frame = refl; ticks = refl; resumed = refl; resumed_run = refl; halt = refl; global = same; device = refl; good = λ q hq g. g; modules = λ q hq g. refl }

pub boards_agree : (k : TriplexCore) (d : TriplexState) (s : MendingBoards) → AreMendingBoards s → LatchAgreement k d → LatchAgreement k (record d { boards = s })
boards_agree k d s boards h = record {
  members = h.members;
  voter = h.voter;
  good = λ q hq g.
      let t = h.good q hq g in
      record { membership = t.membership; awake = t.awake; port = t.port; latch = t.latch; lines = t.lines };
  inbox = h.inbox;
  frame = h.frame;
  timer = h.timer;
  boards = boards;
  room = h.room;
}

-- a fault of a board
pub board_acts : (d : TriplexState) (fault : BoardFault) → memory_of (board_struck fault d).boards ≡ memory_of d.boards → ActEffect d (board_struck fault d)
board_acts d fault same = boards_act d (mending_struck d.boards fault) same

pub board_agrees : (k : TriplexCore) (d : TriplexState) (fault : BoardFault) → AreMendingBoards (board_struck fault d).boards → LatchAgreement k d → LatchAgreement k (board_struck fault d)
board_agrees k d fault boards h = boards_agree k d (mending_struck d.boards fault) boards h

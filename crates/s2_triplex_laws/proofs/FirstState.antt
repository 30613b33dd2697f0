-- The state at the start of a program.
use Rattle.std.proofs.Common.{◌≡◌, ℕ, zero, suc, ◌<◌, List, refl, inl, inr, arith}
use Rattle.std.specs.Prelude.{Bool, true, false, is_some, if◌then◌else◌}
use Rattle.s2_clock.specs.Frames.{IsFrame, is_long}
use Rattle.s2_voter.specs.declared.timers.TheConstants.{DECISION_TIMER, LONG_DECISION_TIMER}
use Rattle.s2_voter.specs.Timers.{timer_of}
use Rattle.s2_voter.specs.VoterState.{IsTimer, IsVoter, is_member, latch_of}
use Rattle.s2_voter.specs.VoterCalls.{new_voter}
use Rattle.s2_cpu.specs.Processor.{start_of}
use Rattle.s2_revive.proofs.MendingMemory.{new_keeps}
use Rattle.s2_triplex.specs.TriplexCores.{TriplexCore}
use Rattle.s2_triplex.specs.ModuleState.{Replica}
use Rattle.s2_triplex.specs.TriplexState.{module_at, membership_at, is_in, started_triplex}
use Rattle.s2_triplex_laws.specs.LatchAgreement.{GoodMember}
use Rattle.s2_triplex_laws.specs.ReplicaEquality.{ReachedByCycles}
use Rattle.s2_triplex_laws.specs.LawfulSteps.{FirstStateInvariant}
use Rattle.s2_triplex_laws.proofs.SkewSteps.{FairClock, resumed_invariant}

first_good : (k : TriplexCore) (frame entry : ℕ) (local global : List ℕ) (p : ℕ) → p < 3 → GoodMember k (started_triplex frame entry local global) p
first_good k frame entry local global zero h = record { membership = refl; awake = refl; port = tt; latch = refl; lines = refl }
first_good k frame entry local global (suc zero) h = record { membership = refl; awake = refl; port = tt; latch = refl; lines = refl }
first_good k frame entry local global (suc (suc zero)) h = record { membership = refl; awake = refl; port = tt; latch = refl; lines = refl }
first_good k frame entry local global (suc (suc (suc p))) h = absurd (omega arith)

first_members : (k : TriplexCore) (frame entry : ℕ) (local global : List ℕ) (p : ℕ) → p < 3 →
    is_member (started_triplex frame entry local global).voter p ≡ is_in (membership_at (started_triplex frame entry local global).memberships p)
first_members k frame entry local global zero h = refl
first_members k frame entry local global (suc zero) h = refl
first_members k frame entry local global (suc (suc zero)) h = refl
first_members k frame entry local global (suc (suc (suc p))) h = absurd (omega arith)

unlatched : (p : ℕ) → is_some (latch_of new_voter p) ≡ true → is_member new_voter p ≡ true
unlatched zero h = refl
unlatched (suc zero) h = refl
unlatched (suc (suc zero)) h = refl
unlatched (suc (suc (suc p))) h = absurd cc

-- the frame of a machine that is given none
pub first_frame : IsFrame 1024
first_frame = record { low = omega arith; high = omega arith }

-- the timer of a frame is one that a voter may be given
one_timer : (long : Bool) → IsTimer (if long then LONG_DECISION_TIMER else DECISION_TIMER)
one_timer true = inr refl
one_timer false = inl refl

pub timer_fits : (frame : ℕ) → IsTimer (timer_of frame)
timer_fits frame = one_timer (is_long frame)

first_voter : (frame : ℕ) → IsVoter (record new_voter { timer = timer_of frame })
first_voter frame = record { members = refl; latches = refl; latched = unlatched; aged = refl; age = tt; timer = timer_fits frame }

abbrev first_replica : ℕ → ℕ → List ℕ → Replica
first_replica frame entry local = record { cpu = start_of entry; local = local; due = false; frame = frame }

first_reached : (k : TriplexCore) (frame entry : ℕ) (local global : List ℕ) (p : ℕ) → p < 3 → ReachedByCycles k (first_replica frame entry local) 0 0 (module_at (started_triplex frame entry local global).modules p)
first_reached k frame entry local global zero h = record { cycles = 0; quiet = λ i less. absurd (omega arith); is = refl; spent = omega arith }
first_reached k frame entry local global (suc zero) h = record { cycles = 0; quiet = λ i less. absurd (omega arith); is = refl; spent = omega arith }
first_reached k frame entry local global (suc (suc zero)) h = record { cycles = 0; quiet = λ i less. absurd (omega arith); is = refl; spent = omega arith }
first_reached k frame entry local global (suc (suc (suc p))) h = absurd (omega arith)

first_clocks : (k : TriplexCore) (frame entry : ℕ) (local global : List ℕ) (p : ℕ) → p < 3 → FairClock (started_triplex frame entry local global) p
first_clocks k frame entry local global zero h = record { fires = omega arith; fair = omega arith }
first_clocks k frame entry local global (suc zero) h = record { fires = omega arith; fair = omega arith }
first_clocks k frame entry local global (suc (suc zero)) h = record { fires = omega arith; fair = omega arith }
first_clocks k frame entry local global (suc (suc (suc p))) h = absurd (omega arith)

never : false ≡ true → ⊥
never h = cc

pub first_state : FirstStateInvariant
first_state k frame entry local global c f size =
    resumed_invariant k c (started_triplex frame entry local global) (record {
      agreement = record {
        frame = f;
        timer = refl;
        members = first_members k frame entry local global;
        voter = first_voter frame;
        good = λ p hp g. first_good k frame entry local global p hp;
        inbox = omega arith;
        room = omega arith;
        boards = new_keeps global size;
      };
      replicas = record {
        start = first_replica frame entry local;
        frame = refl;
        at = refl;
        ends = λ due. absurd (never due);
        low = omega arith;
        room = omega arith;
        each = λ p hp g. first_reached k frame entry local global p hp;
      };
    }) refl refl (λ p hp g. first_clocks k frame entry local global p hp)

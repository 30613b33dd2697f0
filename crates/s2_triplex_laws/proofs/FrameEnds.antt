-- The frame's ends between two run counts: a replica that asks nothing passes none.
use Rattle.std.proofs.Common.{◌≡◌, ℕ, suc, ◌+◌, ◌-◌, ◌*◌, ◌/◌, ◌%◌, ◌^◌, ◌<◌, ◌≤◌, refl, sym, ap, subst, inl, inr, ◌∙◌, arith, mod-lt}
use Rattle.std.specs.Prelude.{Bool, true, false, nat_lt, ◌==◌, ◌&&◌}
use Rattle.std.proofs.Math.Nat.{mod-add-div', mul-le-mul_right}
use Rattle.std.proofs.lemmas.Bool.{cases_lt}
use Rattle.std.proofs.lemmas.Bool.Decides.{nat_tests}
use Rattle.s2_plant_laws.specs.RepairBound.{next_sync}
use Rattle.s2_clock.specs.Frames.{IsFrame}
use Rattle.s2_triplex.specs.TriplexCores.{TriplexCore, IsTriplexCore}
use Rattle.s2_triplex.specs.ModuleState.{Replica, after_local_cycles, is_frame_end}
use Rattle.s2_triplex_laws.proofs.LocalCycles.{Quiet, run_after_cycles}
use Rattle.s2_triplex_laws.proofs.MaskingLaws.{ask_by_due}
use Rattle.s2_triplex_laws.proofs.NextRequests.{up_to_end, due_after, ends_at}

clash : (b : Bool) → b ≡ true → b ≡ false → ⊥
clash b x y = cc

-- an end is a multiple
pub multiple_at_end : (frame n : ℕ) → is_frame_end frame n ≡ true → n % frame ≡ 0
multiple_at_end frame n h = by_tests (nat_lt 0 n) (n % frame == 0) refl h
  where
    zero_is : (m : ℕ) → (m == 0) ≡ true → m ≡ 0
    zero_is m e = grind (arith, nat_tests)

    by_tests : (a b : Bool) → (n % frame == 0) ≡ b → (a && b) ≡ true → n % frame ≡ 0
    by_tests true true e h = zero_is (n % frame) e
    by_tests true false e h = absurd cc
    by_tests false b e h = absurd cc

-- the next multiple is the least
pub next_least : (frame n m : ℕ) → 0 < frame → m % frame ≡ 0 → n < m → n + (frame - n % frame) ≤ m
next_least frame n m low whole less =
    let small = mod-lt n low in
    let en = mod-add-div' n frame in
    let em = mod-add-div' m frame in
    elim (cases_lt (n / frame) (m / frame)) [
      | inl fewer ↦
          let steps = mul-le-mul_right {m = suc (n / frame)} {n = m / frame} frame fewer in
          let one : suc (n / frame) * frame ≡ n / frame * frame + frame = omega arith in
          omega arith
      | inr more ↦
          let steps = mul-le-mul_right {m = m / frame} {n = n / frame} frame more in
          absurd (omega arith)
    ]

-- the next Sync, up to a multiple
pub sync_within : (frame n m : ℕ) → 0 < frame → 0 < n → m % frame ≡ 0 → n ≤ m → next_sync frame (is_frame_end frame n) n ≤ m
sync_within frame n m low some whole most = by_test (is_frame_end frame n) refl
  where
    by_test : (b : Bool) → is_frame_end frame n ≡ b → next_sync frame b n ≤ m
    by_test true e = most
    by_test false e = elim (cases_lt n m) [
      | inl less ↦ next_least frame n m low whole less
      | inr same ↦ (let is : n ≡ m = omega arith in absurd (clash (is_frame_end frame n) (ends_at frame n some (ap (λ (x : ℕ). x % frame) is ∙ whole)) e))
    ]

-- so many quiet cycles from a start
pub record QuietRun (k : TriplexCore) (frame : ℕ) (start : Replica) (run n : ℕ) : Type 0 where
  pub core : IsTriplexCore k
  pub fits : IsFrame frame
  pub frame_is : start.frame ≡ frame
  pub at : start.cpu.run ≡ run
  pub ends : start.due ≡ true → is_frame_end frame start.cpu.run ≡ true
  pub quiet : Quiet k n start
  pub room : run + n < 2 ^ 64

quiet_due : (k : TriplexCore) (frame : ℕ) (start : Replica) (run n : ℕ) → QuietRun k frame start run n → (i : ℕ) → i < n → (after_local_cycles k i start).due ≡ false
quiet_due k frame start run n h i less = ask_by_due k (after_local_cycles k i start) (after_local_cycles k i start).due (h.quiet i less)

run_is : (k : TriplexCore) (frame : ℕ) (start : Replica) (run n : ℕ) → QuietRun k frame start run n → (i : ℕ) → i ≤ n → (after_local_cycles k i start).cpu.run ≡ run + i
run_is k frame start run n h i most =
    let at = h.at in
    let room = h.room in
    let to = run_after_cycles k h.core i start (λ j less. h.quiet j (omega arith)) (omega arith) in
    omega arith

due_is : (k : TriplexCore) (frame : ℕ) (start : Replica) (run n : ℕ) → QuietRun k frame start run n → (i : ℕ) → 0 < i → i ≤ n → (after_local_cycles k i start).due ≡ is_frame_end frame (run + i)
due_is k frame start run n h i some most = due_after k i start some ∙ (ap (is_frame_end start.frame) (run_is k frame start run n h i most) ∙ ap (λ (f : ℕ). is_frame_end f (run + i)) h.frame_is)

-- the next Sync is not passed
pub record UpToSync (k : TriplexCore) (frame : ℕ) (start : Replica) (run n : ℕ) : Type 0 where
  pub most : run + n ≤ next_sync frame start.due run
  pub sync : (after_local_cycles k n start).due ≡ true → (run + n) % frame ≡ 0
  pub access : (after_local_cycles k n start).due ≡ false → (run + n + 1 ≤ next_sync frame start.due run) × (next_sync frame start.due run % frame ≡ 0)

pub quiet_up_to_sync : (k : TriplexCore) (frame : ℕ) (start : Replica) (run n : ℕ) → QuietRun k frame start run n → UpToSync k frame start run n
quiet_up_to_sync k frame start run n h = by_due start.due refl
  where
    low : 0 < frame
    low = let f = h.fits.low in omega arith

    none : start.due ≡ true → n ≡ 0
    none due = elim (cases_lt 0 n) [ inl some ↦ absurd (clash start.due due (quiet_due k frame start run n h 0 some)) | inr still ↦ omega arith ]

    not_past : (m : ℕ) → m % frame ≡ 0 → run < m → m < run + n → ⊥
    not_past m whole above below =
        let i : run + (m - run) ≡ m = omega arith in
        clash (after_local_cycles k (m - run) start).due
        (due_is k frame start run n h (m - run) (omega arith) (omega arith) ∙ (ap (is_frame_end frame) i ∙ ends_at frame m (omega arith) whole)) (quiet_due k frame start run n h (m - run) (omega arith))

    some_cycle : start.due ≡ false → (after_local_cycles k n start).due ≡ true → 0 < n
    some_cycle off on = elim (cases_lt 0 n) [ inl some ↦ some | inr still ↦ (let e : n ≡ 0 = omega arith in absurd (clash (after_local_cycles k n start).due on (ap (λ (i : ℕ). (after_local_cycles k i start).due) e ∙ off))) ]

    by_due : (b : Bool) → start.due ≡ b → UpToSync k frame start run n
    by_due true e =
        let still = none e in
        let same : (after_local_cycles k n start).due ≡ true = ap (λ (i : ℕ). (after_local_cycles k i start).due) still ∙ e in
        let whole : run % frame ≡ 0 = ap (λ (x : ℕ). x % frame) (sym h.at) ∙ multiple_at_end frame start.cpu.run (h.ends e) in
        let is : run + n ≡ run = omega arith in
        record {
          most = subst (λ (b : Bool). run + n ≤ next_sync frame b run) (sym e) (omega arith);
          sync = λ on. ap (λ (x : ℕ). x % frame) is ∙ whole;
          access = λ off. absurd (clash (after_local_cycles k n start).due same off);
        }
    by_due false e =
        let up = up_to_end frame run low in
        let some = up.0 in
        let whole = up.2 in
        let most : run + n ≤ run + (frame - run % frame) = elim (cases_lt (run + (frame - run % frame)) (run + n)) [
          | inl past ↦ absurd (not_past (run + (frame - run % frame)) whole (omega arith) past)
          | inr within ↦ within
        ] in
        record {
          most = subst (λ (b : Bool). run + n ≤ next_sync frame b run) (sym e) most;
          sync = λ on. multiple_at_end frame (run + n) (sym (due_is k frame start run n h n (some_cycle e on) (omega arith)) ∙ on);
          access = λ off.
              subst (λ (b : Bool). (run + n + 1 ≤ next_sync frame b run) × (next_sync frame b run % frame ≡ 0)) (sym e) (
                elim (cases_lt (run + n) (run + (frame - run % frame))) [
                  | inl less ↦ less_one (run + n) (run + (frame - run % frame)) less
                  | inr same ↦ (let is : run + n ≡ run + (frame - run % frame) = omega arith in
                      absurd (clash (after_local_cycles k n start).due (due_is k frame start run n h n (omega arith) (omega arith) ∙ ends_at frame (run + n) (omega arith) (ap (λ (x : ℕ). x % frame) is ∙ whole)) off))
                ],
                whole,
              );
        }
      where
        less_one : (x y : ℕ) → x < y → x + 1 ≤ y
        less_one x y h = omega arith

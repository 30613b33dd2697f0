-- The ticks of a repair.
use Rattle.std.proofs.Common.{◌≡◌, ℕ, suc, ◌+◌, ◌-◌, ◌*◌, ◌/◌, ◌%◌, ◌<◌, ◌≤◌, refl, sym, ap, ◌∙◌, inl, inr, arith, mod-lt}
use Rattle.std.specs.Prelude.{Bool, true, false, ◌⊎◌, if◌then◌else◌}
use Rattle.std.proofs.Math.Nat.{mod-add-div', mul-le-mul_right}
use Rattle.std.proofs.lemmas.Bool.{true≢false, cases_lt}
use Rattle.s2_clock.specs.Frames.{IsFrame, is_long}
use Rattle.s2_voter.specs.Timers.{timer_of}
use Rattle.s2_plant_laws.specs.FrameNumbers.{stated_reintegration_of}
use Rattle.s2_plant_laws.specs.WorkSpan.{span}
use Rattle.s2_plant_laws.specs.RepairBound.{RepairTally, TicksCounted, RepairCounts, next_sync, NextSyncMoves, repair_ticks, StatedReintegration}
use Rattle.s2_plant_laws.proofs.Spans.{span_bounds, short_frame, skew_by}
use Rattle.s2_plant_laws.proofs.RepairNumbers.{progress_most}

access : (c : RepairTally) (j e : ℕ) → 1 ≤ j → (e ≤ span j) ⊎ (c.tick + e ≤ c.revived + 1) → TicksCounted c → TicksCounted (record c { tick = c.tick + e; run = c.run + j })
access c j e one (inl soon) h = record { rising = let r = h.rising in omega arith; ticks = let r = h.rising in let t = h.ticks in let s = span_bounds.sevenfold j one in omega arith }
access c j e one (inr first) h = record { rising = let r = h.rising in omega arith; ticks = let r = h.rising in omega arith }

sync : (c : RepairTally) (j e : ℕ) → 1 ≤ j → (e ≤ span j) ⊎ (c.tick + e ≤ c.revived + 1) → TicksCounted c → TicksCounted (record c { tick = c.tick + e; run = c.run + (j - 1); syncs = c.syncs + 1 })
sync c j e one (inl soon) h = record { rising = let r = h.rising in omega arith; ticks = let r = h.rising in let t = h.ticks in let s = span_bounds.sevenfold j one in omega arith }
sync c j e one (inr first) h = record { rising = let r = h.rising in omega arith; ticks = let r = h.rising in omega arith }

word : (c : RepairTally) → TicksCounted c → TicksCounted (record c { tick = c.tick + 1; words = c.words + 1 })
word c h = record { rising = h.rising; ticks = let t = h.ticks in omega arith }

revive : (c : RepairTally) (now : ℕ) → c.tick ≤ now → TicksCounted (record c { revived = now; revived_run = c.run; syncs = 0; words = 0 })
revive c now h = record { rising = omega arith; ticks = omega arith }

pub repair_counts : RepairCounts
repair_counts = record { access = access; sync = sync; word = word; revive = revive }

-- the next multiple is the least
next_least : (frame run end : ℕ) → 0 < frame → end % frame ≡ 0 → run < end → run + (frame - run % frame) ≤ end
next_least frame run end low whole less =
    let small = mod-lt run low in
    let er = mod-add-div' run frame in
    let ee = mod-add-div' end frame in
    elim (cases_lt (run / frame) (end / frame)) [
      | inl fewer ↦
          let steps = mul-le-mul_right {m = suc (run / frame)} {n = end / frame} frame fewer in
          let one : suc (run / frame) * frame ≡ run / frame * frame + frame = omega arith in
          omega arith
      | inr more ↦
          let steps = mul-le-mul_right {m = end / frame} {n = run / frame} frame more in
          absurd (omega arith)
    ]

up_to : (frame run end : ℕ) (due : Bool) → 0 < frame → end % frame ≡ 0 → run ≤ end → (run % frame ≡ 0 → due ≡ true) → next_sync frame due run ≤ end
up_to frame run end true low whole most at = most
up_to frame run end false low whole most at = elim (cases_lt run end) [
  | inl less ↦ next_least frame run end low whole less
  | inr same ↦ absurd (true≢false (sym (at (ap (λ (x : ℕ). x % frame) (let is : run ≡ end = omega arith in is) ∙ whole))))
]

after_sync : (frame run : ℕ) → 0 < frame → run % frame ≡ 0 → next_sync frame false run ≡ run + frame
after_sync frame run low whole = omega arith

first : (frame run : ℕ) (due : Bool) → next_sync frame due run ≤ run + frame
first frame run true = omega arith
first frame run false = omega arith

pub next_sync_moves : NextSyncMoves
next_sync_moves = record { access = up_to; sync = after_sync; first = first }

-- a repair's ticks, by the kind of the frame
covers_by : (long : Bool) (frame : ℕ) → is_long frame ≡ long → IsFrame frame →
    repair_ticks frame + span (frame + 1) + (if long then 384 else 128) ≤ (if long then 17000000 else 5000000)
covers_by true frame is f = let high = f.high in let s = (skew_by true frame (frame + 1) is f (omega arith) (omega arith)).1 in omega arith
covers_by false frame is f = let short = short_frame frame is in let s = (skew_by false frame (frame + 1) is f (omega arith) (omega arith)).1 in omega arith

pub covers : (frame : ℕ) → IsFrame frame → repair_ticks frame + span (frame + 1) + timer_of frame ≤ stated_reintegration_of frame
covers frame f = covers_by (is_long frame) frame refl f

-- the present tick, by the kind of the frame
in_time_by : (long : Bool) (frame : ℕ) (c : RepairTally) (now : ℕ) → is_long frame ≡ long → IsFrame frame → c.syncs ≤ 545 → c.words ≤ 544 * 1024 + 278528 + 176 → c.run ≤ c.revived_run + frame * (c.syncs + 1) →
    now < c.tick + span (frame + 1) + (if long then 384 else 128) → TicksCounted c → now < c.revived + (if long then 17000000 else 5000000)
in_time_by true frame c now is f syncs words run soon t =
    let high = f.high in
    let s = (skew_by true frame (frame + 1) is f (omega arith) (omega arith)).1 in
    let steps = mul-le-mul_right (c.syncs + 1) high in
    let k = t.ticks in
    omega arith
in_time_by false frame c now is f syncs words run soon t =
    let short = short_frame frame is in
    let s = (skew_by false frame (frame + 1) is f (omega arith) (omega arith)).1 in
    let steps = mul-le-mul_right (c.syncs + 1) short in
    let k = t.ticks in
    omega arith

pub stated_reintegration : StatedReintegration
stated_reintegration = record {
  sum = refl;
  long_sum = refl;
  covers = covers;
  in_time = λ frame c j now f same h run soon t.
      let m = progress_most c.words j h in
      let a = m.0 in
      let b = m.1 in
      in_time_by (is_long frame) frame c now refl f (omega arith) (omega arith) run soon t;
}

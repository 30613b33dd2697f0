-- The bound of a repair: its ticks are counted from the `revive` on, at the last resume.
use Rattle.std.specs.Prelude.{ℕ, ◌≡◌, ◌<◌, ◌≤◌, ◌+◌, ◌-◌, ◌*◌, ◌%◌, ◌⊎◌, Bool, true, false}
use Rattle.s2_clock.specs.declared.numbers.TheConstants.{FRAME, LONGEST_FRAME}
use Rattle.s2_join.specs.declared.join.TheConstants.{SINGLE_PAGE_SYNCS}
use Rattle.s2_join.specs.CopyOrder.{CopyState}
use Rattle.s2_clock.specs.Frames.{IsFrame}
use Rattle.s2_voter.specs.Timers.{timer_of}
use Rattle.s2_plant_laws.specs.FrameNumbers.{stated_reintegration_of}
use Rattle.s2_plant_laws.specs.WorkSpan.{span, frame_work}
use Rattle.s2_plant_laws.specs.RepairProgress.{RepairProgress, most_words}

-- the tick and run count of the last resume, those of the `revive`, the Syncs that copied since, and the words
pub record RepairTally : Type 0 where
  pub tick : ℕ
  pub run : ℕ
  pub revived : ℕ
  pub revived_run : ℕ
  pub syncs : ℕ
  pub words : ℕ

-- seven ticks for each run cycle and each Sync since the `revive`, and one for each word
pub record TicksCounted (c : RepairTally) : Type 0 where
  pub rising : c.revived_run ≤ c.run
  pub ticks : c.tick ≤ c.revived + 7 * (c.run - c.revived_run + c.syncs) + c.words

-- A decision comes e ticks after the last resume: within the span of j, or at the first tick after the `revive`,
-- where it may have been due. An access ends j run cycles, a Sync one less.
pub record RepairCounts : Type 0 where
  pub access : (c : RepairTally) (j e : ℕ) → 1 ≤ j → (e ≤ span j) ⊎ (c.tick + e ≤ c.revived + 1) → TicksCounted c → TicksCounted (record c { tick = c.tick + e; run = c.run + j })
  pub sync : (c : RepairTally) (j e : ℕ) → 1 ≤ j → (e ≤ span j) ⊎ (c.tick + e ≤ c.revived + 1) → TicksCounted c →
      TicksCounted (record c { tick = c.tick + e; run = c.run + (j - 1); syncs = c.syncs + 1 })
  pub word : (c : RepairTally) → TicksCounted c → TicksCounted (record c { tick = c.tick + 1; words = c.words + 1 })
  pub revive : (c : RepairTally) (now : ℕ) → c.tick ≤ now → TicksCounted (record c { revived = now; revived_run = c.run; syncs = 0; words = 0 })

-- the run count of the next Sync: now where one is due, and else the next multiple of the frame
abbrev pub next_sync : ℕ → Bool → ℕ → ℕ
next_sync frame true run = run
next_sync frame false run = run + (frame - run % frame)

-- an access that ends at a run count up to a frame's end leaves the next Sync at or before it, a Sync moves it by
-- a frame, and the first one comes within a frame
pub record NextSyncMoves : Type 0 where
  pub access : (frame run end : ℕ) (due : Bool) → 0 < frame → end % frame ≡ 0 → run ≤ end → (run % frame ≡ 0 → due ≡ true) → next_sync frame due run ≤ end
  pub sync : (frame run : ℕ) → 0 < frame → run % frame ≡ 0 → next_sync frame false run ≡ run + frame
  pub first : (frame run : ℕ) (due : Bool) → next_sync frame due run ≤ run + frame

-- the ticks that a repair must cover with a frame: seven for each run cycle and Sync, and one for each word
abbrev pub repair_ticks : ℕ → ℕ
repair_ticks frame = 7 * ((SINGLE_PAGE_SYNCS + 1) * frame_work frame) + most_words

-- The stated reintegration of a frame: fewer ticks than it have passed since the `revive`, where the next Sync comes
-- within its frames, and the present tick within a frame's span and the timer of the last resume.
pub record StatedReintegration : Type 0 where
  pub sum : repair_ticks FRAME ≡ 4746135
  pub long_sum : repair_ticks LONGEST_FRAME ≡ 16465815
  pub covers : (frame : ℕ) → IsFrame frame → repair_ticks frame + span (frame_work frame) + timer_of frame ≤ stated_reintegration_of frame
  pub in_time : (frame : ℕ) (c : RepairTally) (j : CopyState) (now : ℕ) → IsFrame frame → c.syncs ≡ j.syncs → RepairProgress c.words j → c.run ≤ c.revived_run + frame * (c.syncs + 1) →
      now < c.tick + span (frame_work frame) + timer_of frame → TicksCounted c → now < c.revived + stated_reintegration_of frame

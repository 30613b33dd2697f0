-- `span` is the least, and its bounds.
use Rattle.std.proofs.Common.{◌≡◌, ℕ, ◌+◌, ◌*◌, ◌<◌, ◌≤◌, refl, arith}
use Rattle.std.specs.Prelude.{Bool, true, false, if◌then◌else◌}
use Rattle.std.proofs.lemmas.Bool.Decides.{nat_tests}
use Rattle.s2_clock.specs.Frames.{IsFrame, is_long}
use Rattle.s2_plant_laws.specs.FrameNumbers.{skew_of}
use Rattle.s2_plant_laws.specs.WorkSpan.{sure_work, span, SpanIsLeast, SpanBounds}

pub span_enough : (j : ℕ) → 1 ≤ j → j ≤ sure_work (span j)
span_enough j h = omega arith

pub span_least : (j t : ℕ) → 1 ≤ j → j ≤ sure_work t → span j ≤ t
span_least j t h enough = omega arith

pub span_is_least : SpanIsLeast
span_is_least j h = (span_enough j h, λ t enough. span_least j t h enough)

span-skew : (j : ℕ) → 1 ≤ j → j ≤ 1025 → (j ≤ span j) × (span j ≤ j + 82)
span-skew j h b = omega arith

span-long_skew : (j : ℕ) → 1 ≤ j → j ≤ 4097 → (j ≤ span j) × (span j ≤ j + 312)
span-long_skew j h b = omega arith

-- whether a frame is long, by its length
pub short_frame : (frame : ℕ) → is_long frame ≡ false → frame ≤ 1024
short_frame frame h = grind (arith, nat_tests)

pub long_frame : (frame : ℕ) → is_long frame ≡ true → 1024 < frame
long_frame frame h = grind (arith, nat_tests)

pub skew_by : (long : Bool) (frame j : ℕ) → is_long frame ≡ long → IsFrame frame → 1 ≤ j → j ≤ frame + 1 → (j ≤ span j) × (span j ≤ j + (if long then 312 else 82))
skew_by true frame j is f low most = let high = f.high in span-long_skew j low (omega arith)
skew_by false frame j is f low most = let short = short_frame frame is in span-skew j low (omega arith)

pub frame_skew : (frame j : ℕ) → IsFrame frame → 1 ≤ j → j ≤ frame + 1 → (j ≤ span j) × (span j ≤ j + skew_of frame)
frame_skew frame j f low most = skew_by (is_long frame) frame j refl f low most

-- more work takes no fewer ticks
pub span_grows : (i j : ℕ) → 1 ≤ i → i ≤ j → span i ≤ span j
span_grows i j low most = omega arith

span-sevenfold : (j : ℕ) → 1 ≤ j → span j ≤ 7 * j
span-sevenfold j h = omega arith

pub span_bounds : SpanBounds
span_bounds = record { frame = refl; longest_frame = refl; skew = span-skew; long_skew = span-long_skew; every_frame = frame_skew; sevenfold = span-sevenfold }

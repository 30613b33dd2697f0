use Rattle.std.proofs.Common.{◌≡◌, ℕ, ◌*◌, ◌%◌, ◌^◌, refl, subst, sym, ◌∙◌}
use Rattle.std.specs.Prelude.{Bool, true, false, not, bit_or}
use Rattle.s2_clock.specs.TickWindow.{bits_shown, miss_of, window_after}
use Rattle.s2_clock.proofs.BitsShown.{bits_shown-shifted}
use Rattle.s2_clock.proofs.window.shifted.Goals as goal

-- the byte of a test that failed
shown_with : (n : ℕ) (fired : Bool) (w : ℕ) → n ≡ miss_of fired → bits_shown 64 (bit_or (w * 2 % 2 ^ 64) n) ≡ window_after fired (bits_shown 64 w)
shown_with n fired w e = subst (λ (m : ℕ). bits_shown 64 (bit_or (w * 2 % 2 ^ 64) m) ≡ window_after fired (bits_shown 64 w)) (sym e) (bits_shown-shifted w fired)

pub returns : goal.returns
returns c = shown_with _ c.args.fired c.args.word (c.from.ensures ∙ byte_is c.args.fired)
  where
    byte_is : (fired : Bool) → mir.Val.bool_byte (not fired) ≡ miss_of fired
    byte_is true = refl
    byte_is false = refl

-- The segments of the headers before the index are laid.
use Rattle.std.proofs.Common.{◌≡◌, List, ℕ, length}
use Rattle.s2_base.specs.declared.map.TheConstants.{LOCAL_WORDS, GLOBAL_WORDS}
use Rattle.s2_elf.specs.Images.{local_address, global_address}
use Rattle.s2_elf.specs.Placing.{AreLaid}
use Rattle.s2_elf.proofs.reader.lay_segments.Given as goal

pub record Laid (bytes local global : List ℕ) (i : ℕ) : Type 0 where
  pub local_long : length local ≡ LOCAL_WORDS
  pub global_long : length global ≡ GLOBAL_WORDS
  pub local_laid : AreLaid bytes i local_address local
  pub global_laid : AreLaid bytes i global_address global

abbrev pub invariant-loop-i : goal.invariant-loop-i
invariant-loop-i l = Laid l.bytes l.local l.global l.i

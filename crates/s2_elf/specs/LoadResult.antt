-- What the loader answers.
use Rattle.std.specs.Prelude.{ℕ, ◌≡◌, true, List, Some}
use Rattle.s2_elf.specs.declared.fault.ElfFail.{ElfFail}
use Rattle.s2_elf.specs.declared.fault.ElfFail.TheVariants.{Fault, Memory}
use Rattle.s2_elf.specs.MemoryImage.{MemoryImage}
use Rattle.s2_elf.specs.Files.{accepts, refusal}
use Rattle.s2_elf.specs.Images.{image_of}

-- an image comes of a file that is accepted, and is that file's
pub record IsImageOf (bytes : List ℕ) (image : MemoryImage) : Type 0 where
  pub accepted : accepts bytes ≡ true
  pub same : image ≡ image_of bytes

-- a refusal names the first condition that is false; memory can be wanting for a file that is accepted alone
abbrev pub IsRefusalOf : List ℕ → ElfFail → Type 0
IsRefusalOf bytes (Fault fault) = refusal bytes ≡ Some fault
IsRefusalOf bytes Memory = accepts bytes ≡ true

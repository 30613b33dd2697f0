-- The texts of the refusals of a file.
use Rattle.std.specs.Prelude.{ℕ, List, ◌∷◌, ◌++◌, codes, decimal}
use Rattle.s2_elf.specs.declared.fault.ElfFault.{ElfFault}
use Rattle.s2_elf.specs.declared.fault.ElfFault.TheVariants.{Short, Magic, Class, Order, Version, Kind, Machine, TooMany, HeaderSize, TableOutside, Dynamic, Bounds, FileOutside, Placed, Entry}

-- a word, a space and a decimal number
abbrev pub counted_text : List ℕ → ℕ → List ℕ
counted_text word n = word ++ 32 ∷ decimal n

abbrev pub refusal_text : ElfFault → List ℕ
refusal_text (Short length) = counted_text (codes "short") length
refusal_text Magic = codes "magic"
refusal_text Class = codes "class"
refusal_text Order = codes "order"
refusal_text Version = codes "version"
refusal_text Kind = codes "kind"
refusal_text Machine = codes "machine"
refusal_text (TooMany headers) = counted_text (codes "toomany") headers
refusal_text HeaderSize = codes "headersize"
refusal_text TableOutside = codes "tableoutside"
refusal_text (Dynamic header) = counted_text (codes "dynamic") header
refusal_text (Bounds header) = counted_text (codes "bounds") header
refusal_text (FileOutside header) = counted_text (codes "fileoutside") header
refusal_text (Placed header) = counted_text (codes "placed") header
refusal_text Entry = codes "entry"

-- The R2000 is a core of the triple machine: an access does to the boards what it does to their contents.
use Rattle.std.proofs.Common.{◌≡◌, ℕ, ◌+◌, ◌-◌, ◌/◌, ◌<◌, ◌≤◌, refl, ap, ◌∙◌, arith}
use Rattle.std.specs.Prelude.{Bool, true, false, nat_lt, nat_le, ◌&&◌, slice_set, if◌then◌else◌}
use Rattle.std.proofs.lemmas.Bool.Decides.{nat_tests}
use Rattle.s2_base.specs.Words.{bytes_into_of}
use Rattle.s2_base.specs.Map.{place_at, is_between}
use Rattle.s2_base.specs.declared.map.TheConstants.{LOCAL_START, LOCAL_END, BOOT_START, BOOT_END, GLOBAL_START, GLOBAL_END, DEVICE_START, DEVICE_END, LOCAL_MEMORY_WORDS, GLOBAL_WORDS}
use Rattle.s2_base.specs.declared.places.Place.{Place}
use Rattle.s2_base.specs.declared.places.Place.TheVariants.{Local, Boot, Global, Device as DevicePlace, Nowhere}
use Rattle.s2_ports.specs.declared.requests.Request.{Request}
use Rattle.s2_ports.specs.declared.requests.Kind.{Kind}
use Rattle.s2_ports.specs.declared.requests.Kind.TheVariants.{Load, Store, Sync}
use Rattle.s2_device.specs.DeviceState.{Device}
use Rattle.s2_duplex.specs.DuplexBoards.{valid_word}
use Rattle.s2_duplex.proofs.DuplexInvariant.{valid_in_contents}
use Rattle.s2_revive.specs.MendingBoards.{MendingBoards, AreMendingBoards, memory_of}
use Rattle.s2_revive.proofs.MendingMemory.{read_keeps, read_memory, write_keeps, write_memory}
use Rattle.s2_machine.specs.OutsideAccess.{access_at}
use Rattle.s2_core.proofs.CoreFacts.{r2000_core}
use Rattle.s2_triplex.specs.TriplexCores.{KeepsBoards}
use Rattle.s2_triplex.specs.R2000Triplex.{boards_after_access, r2000_triplex, R2000IsTriplexCore}

-- an address of global memory is that of a word
in_range : (low pa high : ℕ) → is_between low pa high ≡ true → (low ≤ pa) × (pa < high)
in_range low pa high h = by_tests (nat_le low pa) (nat_lt pa high) refl refl h
  where
    by_tests : (a b : Bool) → nat_le low pa ≡ a → nat_lt pa high ≡ b → (a && b) ≡ true → (low ≤ pa) × (pa < high)
    by_tests true true x y h = (grind (arith, nat_tests), grind (arith, nat_tests))
    by_tests true false x y h = absurd cc
    by_tests false b x y h = absurd cc

index_is : (i j : ℕ) → Global i ≡ Global j → i ≡ j
index_is i j h = cc

in_global : (pa i : ℕ) → place_at pa ≡ Global i → i < GLOBAL_WORDS
in_global pa i h = by_tests (is_between LOCAL_START pa LOCAL_END) (is_between BOOT_START pa BOOT_END) (is_between GLOBAL_START pa GLOBAL_END) (is_between DEVICE_START pa DEVICE_END) refl h
  where
    by_tests : (a b c d : Bool) → is_between GLOBAL_START pa GLOBAL_END ≡ c →
        (if a then Local ((pa - LOCAL_START) / 4)
        else if b then Boot (LOCAL_MEMORY_WORDS + (pa - BOOT_START) / 4)
        else if c then Global ((pa - GLOBAL_START) / 4)
        else if d then DevicePlace ((pa - DEVICE_START) / 4)
        else Nowhere) ≡ Global i → i < GLOBAL_WORDS
    by_tests true b c d e h = absurd cc
    by_tests false true c d e h = absurd cc
    by_tests false false true d e h =
        let same = index_is ((pa - GLOBAL_START) / 4) i h in
        let range = in_range GLOBAL_START pa GLOBAL_END e in
        let low = range.0 in
        let high = range.1 in
        omega arith
    by_tests false false false true e h = absurd cc
    by_tests false false false false e h = absurd cc

-- what an access of a place keeps
record KeepsAt (s : MendingBoards) (device : Device) (kind : Kind) (word mask : ℕ) (place : Place) : Type 0 where
  boards : AreMendingBoards (boards_after_access s kind word mask place).boards
  memory : memory_of (boards_after_access s kind word mask place).boards ≡ (access_at (memory_of s) device kind word mask place).global
  mending : (boards_after_access s kind word mask place).boards.mending ≡ s.mending

keeps_global : (s : MendingBoards) (device : Device) (kind : Kind) (word mask i : ℕ) → i < GLOBAL_WORDS → AreMendingBoards s → KeepsAt s device kind word mask (Global i)
keeps_global s device Load word mask i h d = record { boards = read_keeps s i h d; memory = read_memory s i h d; mending = refl }
keeps_global s device Store word mask i h d = record {
  boards = write_keeps s i (bytes_into_of (valid_word s.pair i) word mask) h d;
  memory =
      write_memory s i (bytes_into_of (valid_word s.pair i) word mask) h d ∙
      ap (λ (old : ℕ). slice_set (memory_of s) i (bytes_into_of old word mask)) (valid_in_contents s.pair i h d.duplex);
  mending = refl;
}
keeps_global s device Sync word mask i h d = record { boards = d; memory = refl; mending = refl }

keeps_at : (s : MendingBoards) (device : Device) (kind : Kind) (word mask : ℕ) (place : Place) → ((i : ℕ) → place ≡ Global i → i < GLOBAL_WORDS) → AreMendingBoards s → KeepsAt s device kind word mask place
keeps_at s device kind word mask (Global i) low d = keeps_global s device kind word mask i (low i refl) d
keeps_at s device Load word mask (Local i) low d = record { boards = d; memory = refl; mending = refl }
keeps_at s device Store word mask (Local i) low d = record { boards = d; memory = refl; mending = refl }
keeps_at s device Sync word mask (Local i) low d = record { boards = d; memory = refl; mending = refl }
keeps_at s device Load word mask (Boot i) low d = record { boards = d; memory = refl; mending = refl }
keeps_at s device Store word mask (Boot i) low d = record { boards = d; memory = refl; mending = refl }
keeps_at s device Sync word mask (Boot i) low d = record { boards = d; memory = refl; mending = refl }
keeps_at s device Load word mask (DevicePlace k) low d = record { boards = d; memory = refl; mending = refl }
keeps_at s device Store word mask (DevicePlace k) low d = record { boards = d; memory = refl; mending = refl }
keeps_at s device Sync word mask (DevicePlace k) low d = record { boards = d; memory = refl; mending = refl }
keeps_at s device Load word mask Nowhere low d = record { boards = d; memory = refl; mending = refl }
keeps_at s device Store word mask Nowhere low d = record { boards = d; memory = refl; mending = refl }
keeps_at s device Sync word mask Nowhere low d = record { boards = d; memory = refl; mending = refl }

keeps_boards : (s : MendingBoards) (device : Device) (r : Request) → AreMendingBoards s → KeepsBoards r2000_triplex s device r
keeps_boards s device r d =
    let k = keeps_at s device r.kind r.word r.mask (place_at r.address) (in_global r.address) d in
    record { boards = k.boards; memory = k.memory; mending = k.mending }

pub r2000_triplex_core : R2000IsTriplexCore
r2000_triplex_core = record { core = r2000_core; boards = keeps_boards }

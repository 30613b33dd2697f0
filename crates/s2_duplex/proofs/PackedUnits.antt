-- Bits in units: what a bit that is put in leaves, and a list by its bits.
use Rattle.std.proofs.Common.{◌≡◌, ℕ, ◌*◌, ◌/◌, ◌%◌, ◌<◌, ◌≢◌, List, length, set, get_or, sym, ap, inl, inr, ◌∙◌, arith, length-set, get_or-set_other}
use Rattle.std.specs.Prelude.{Bool, false, map, slice_index}
use Rattle.std.proofs.lemmas.Bool.{cases_eq}
use Rattle.std.proofs.lemmas.List.{get_or-set_same, ext_get_or, get_or-map, length-map}
use Rattle.std.proofs.lemmas.List.FromFn.{length-map-range_with_len, get_or-map-range_with_len}
use Rattle.s2_duplex.specs.BoardParity.{parity_of}
use Rattle.s2_duplex.specs.ParityUnits.{unit_bit, packed_bit, unpacked}

pub length_unpacked : (units : List ℕ) → length (unpacked units) ≡ 64 * length units
length_unpacked units = length-map-range_with_len (packed_bit units) 0 (64 * length units)

pub unpacked_at : (units : List ℕ) (i : ℕ) → i < length (unpacked units) → get_or (unpacked units) i false ≡ packed_bit units i
unpacked_at units i h =
    let size = length_unpacked units in
    get_or-map-range_with_len (packed_bit units) 0 (64 * length units) i i false (omega arith) (omega arith)

-- a unit with a bit put in
pub record PutsBit (old new k : ℕ) (bit : Bool) : Type 0 where
  pub same : unit_bit new k ≡ bit
  pub other : (j : ℕ) → j < 64 → j ≢ k → unit_bit new j ≡ unit_bit old j

bit_put : (units : List ℕ) (i new : ℕ) (bit : Bool) → i < 64 * length units → PutsBit (slice_index units (i / 64)) new (i % 64) bit → packed_bit (set units (i / 64) new) i ≡ bit
bit_put units i new bit h puts = ap (λ (unit : ℕ). unit_bit unit (i % 64)) (get_or-set_same units (i / 64) new 0 (omega arith)) ∙ puts.same

bit_kept : (units : List ℕ) (i new : ℕ) (bit : Bool) → i < 64 * length units → PutsBit (slice_index units (i / 64)) new (i % 64) bit → (k : ℕ) → k ≢ i → packed_bit (set units (i / 64) new) k ≡ packed_bit units k
bit_kept units i new bit h puts k ne = elim (cases_eq (k / 64) (i / 64)) [
  | inl same ↦
      ap (λ (q : ℕ). unit_bit (slice_index (set units (i / 64) new) q) (k % 64)) same ∙
      (ap (λ (unit : ℕ). unit_bit unit (k % 64)) (get_or-set_same units (i / 64) new 0 (omega arith)) ∙
      (puts.other (k % 64) (omega arith) (λ e. ne (omega arith)) ∙ ap (λ (q : ℕ). unit_bit (slice_index units q) (k % 64)) (sym same)))
  | inr apart ↦ ap (λ (unit : ℕ). unit_bit unit (k % 64)) (get_or-set_other units (i / 64) (k / 64) new 0 apart)
]

pub unpacked_put : (units : List ℕ) (i new : ℕ) (bit : Bool) → i < length (unpacked units) → PutsBit (slice_index units (i / 64)) new (i % 64) bit → unpacked (set units (i / 64) new) ≡ set (unpacked units) i bit
unpacked_put units i new bit h puts =
    let size = length_unpacked units in
    let sized = length_unpacked (set units (i / 64) new) in
    let kept = length-set units (i / 64) new in
    let listed = length-set (unpacked units) i bit in
    let low : i < 64 * length units = omega arith in
    ext_get_or false (unpacked (set units (i / 64) new)) (set (unpacked units) i bit) (omega arith) (λ k g.
    unpacked_at (set units (i / 64) new) k g ∙ elim (cases_eq k i) [
      | inl same ↦ ap (packed_bit (set units (i / 64) new)) same ∙ (bit_put units i new bit low puts ∙ (sym (get_or-set_same (unpacked units) i bit false h) ∙ ap (λ (j : ℕ). get_or (set (unpacked units) i bit) j false) (sym same)))
      | inr ne ↦ bit_kept units i new bit low puts k ne ∙ (sym (unpacked_at units k (omega arith)) ∙ sym (get_or-set_other (unpacked units) i k bit false ne))
    ])

-- bits that are those of the words are their parity bits
pub parities_are : (bits : List Bool) (words : List ℕ) → length bits ≡ length words → ((k : ℕ) → k < length words → get_or bits k false ≡ parity_of (get_or words k 0)) → bits ≡ map parity_of words
parities_are bits words size each =
    let mapped = length-map words parity_of in
    ext_get_or false bits (map parity_of words) (omega arith) (λ k h. each k (omega arith) ∙ sym (get_or-map parity_of words k 0 false (omega arith)))

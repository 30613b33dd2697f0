-- Of a byte mask, four bits count.
use Rattle.std.proofs.Common.{◌≡◌, ℕ, ◌%◌, ◌/◌, refl, arith}
use Rattle.std.specs.Prelude.{◌==◌, ◌+◌, ◌*◌, ◌^◌, if◌then◌else◌}
use Rattle.s2_base.specs.Words.{byte_at, bytes_into_of}

-- a word by whether each of its bytes is the stored one
bytes_by : ℕ → ℕ → ℕ → ℕ → ℕ → ℕ → ℕ
bytes_by old new a b c d =
    (if a % 2 == 1 then byte_at new 0 else byte_at old 0) * 2 ^ 24 + (if b % 2 == 1 then byte_at new 1 else byte_at old 1) * 2 ^ 16
    + (if c % 2 == 1 then byte_at new 2 else byte_at old 2) * 2 ^ 8 + (if d % 2 == 1 then byte_at new 3 else byte_at old 3)

pub four_bits : (old new mask : ℕ) → bytes_into_of old new (mask % 16) ≡ bytes_into_of old new mask
four_bits old new mask =
    let a : mask % 16 / 8 % 2 ≡ mask / 8 % 2 = omega arith in
    let b : mask % 16 / 4 % 2 ≡ mask / 4 % 2 = omega arith in
    let c : mask % 16 / 2 % 2 ≡ mask / 2 % 2 = omega arith in
    let d : mask % 16 / 1 % 2 ≡ mask / 1 % 2 = omega arith in
    rw (a, b, c, d) refl

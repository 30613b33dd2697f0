-- Numbers in lists of bytes.
use Rattle.std.proofs.Common.{◌≡◌, ℕ, ◌+◌, ◌*◌, ◌/◌, ◌%◌, ◌^◌, ◌<◌, List, [], ◌∷◌, ◌++◌, length, get_or, refl, arith}
use Rattle.std.proofs.lemmas.List.{places}
use Rattle.s2_elf.specs.Files.{number_at}
use Rattle.s2_program.specs.PlainFiles.{words_bytes}

-- what stands behind the front of a list
pub behind : (xs ys : List ℕ) (i k : ℕ) → i ≡ length xs + k → get_or (xs ++ ys) i 0 ≡ get_or ys k 0
behind xs ys i k e = grind (arith, places)

pub number_behind : (xs ys : List ℕ) (i k : ℕ) → i ≡ length xs + k → number_at (xs ++ ys) i ≡ number_at ys k
number_behind xs ys i k e =
    rw (behind xs ys i k e, behind xs ys (i + 1) (k + 1) (omega arith), behind xs ys (i + 2) (k + 2) (omega arith), behind xs ys (i + 3) (k + 3) (omega arith)) refl

-- a word is made of its four bytes, and a half word of two
pub word_again : (w : ℕ) → w < 2 ^ 32 → ((w / 16777216 % 256 * 256 + w / 65536 % 256) * 256 + w / 256 % 256) * 256 + w % 256 ≡ w
word_again w fits = omega arith

pub half_again : (n : ℕ) → n < 65536 → n / 256 % 256 * 256 + n % 256 ≡ n
half_again n fits = omega arith

pub long_words : (ws : List ℕ) → length (words_bytes ws) ≡ 4 * length ws
long_words [] = refl
long_words (w ∷ ws) = (let h = long_words ws in omega arith)

-- The number that a word stands for is what a cast to a signed word gives.
use Rattle.std.proofs.Common.{◌≡◌, ℕ, ◌^◌, ◌<◌, arith}
use Rattle.std.specs.Int.{w32, cast_signed}
use Rattle.std.proofs.lemmas.Int.{ints}
use Rattle.s2_alu.specs.Signed.{signed}

pub signed_is : (word : ℕ) → word < 2 ^ 32 → signed word ≡ cast_signed w32 word
signed_is word fits = grind (arith, ints)

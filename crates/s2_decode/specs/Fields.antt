-- The fields of an instruction word (MIPS R2000, instruction formats).
use Rattle.std.specs.Prelude.{ℕ, ◌/◌, ◌%◌}

-- bits 31 to 26, the operation code
abbrev pub op_of : ℕ → ℕ
op_of word = word / 0x04000000

-- bits 25 to 21
abbrev pub rs_of : ℕ → ℕ
rs_of word = (word / 0x00200000) % 32

-- bits 20 to 16
abbrev pub rt_of : ℕ → ℕ
rt_of word = (word / 0x00010000) % 32

-- bits 15 to 11
abbrev pub rd_of : ℕ → ℕ
rd_of word = (word / 2048) % 32

-- bits 10 to 6
abbrev pub sa_of : ℕ → ℕ
sa_of word = (word / 64) % 32

-- bits 5 to 0, the function code
abbrev pub fn_of : ℕ → ℕ
fn_of word = word % 64

-- bits 15 to 0
abbrev pub imm_of : ℕ → ℕ
imm_of word = word % 65536

-- bits 25 to 0
abbrev pub target_of : ℕ → ℕ
target_of word = word % 0x04000000

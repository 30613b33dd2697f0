-- The work up to the next request.
use Rattle.std.specs.Prelude.{ℕ, ◌≡◌, ◌<◌, ◌≤◌, ◌+◌, ◌-◌, ◌↔◌, Bool, true, false}

-- `asks i` says whether a processor asks for the outside after i local cycles. The next request is the first
-- one; it comes within so many cycles.
pub record NextRequest (asks : ℕ → Bool) (most : ℕ) : Type 0 where
  pub cycles : ℕ
  pub within : cycles ≤ most
  pub asks_then : asks cycles ≡ true
  pub works_before : (i : ℕ) → i < cycles → asks i ≡ false

-- where there is a request at all, there is a first one
abbrev pub RequestComes : Type 0
RequestComes = (asks : ℕ → Bool) (most : ℕ) → asks most ≡ true → NextRequest asks most

-- with j one more than its cycles, the processor asks exactly before the last of j firings of work
abbrev pub RequestIsLastWork : Type 0
RequestIsLastWork = (asks : ℕ → Bool) (most from run : ℕ) (next : NextRequest asks most) → from ≤ run → run ≤ from + next.cycles →
    (asks (run - from) ≡ true) ↔ (run + 1 ≡ from + (next.cycles + 1))

-- Idle turns, one after another, of which none brings a board in.
use Rattle.std.proofs.Common.{◌≡◌, ℕ, zero, suc, ◌+◌, ◌-◌, ◌<◌, refl, sym, ap, ◌∙◌, arith}
use Rattle.std.specs.Prelude.{Bool, true, nat_lt, Some, None}
use Rattle.std.proofs.lemmas.Bool.Decides.{nat_tests}
use Rattle.std.specs.declared.option.Option.{Option}
use Rattle.s2_base.specs.declared.map.TheConstants.{GLOBAL_WORDS}
use Rattle.s2_duplex.specs.DuplexBoards.{BoardPair}
use Rattle.s2_revive.specs.MendingBoards.{MendingBoards, boards_idled, copied_more, has_more, idled_in, mended_by, unless_more}
use Rattle.s2_revive.specs.IdleRuns.{boards_idled_by, words_left}
use Rattle.s2_revive.specs.declared.revive.Mending.{Mending}

-- where none mends, nothing changes
idles_none : (s : MendingBoards) → s.mending ≡ None → boards_idled s ≡ s
idles_none s none = ap (idled_in s.pair) none ∙ ap (λ (o : Option Mending). let t : MendingBoards = record { pair = s.pair; mending = o } in t) (sym none)

pub idled_none : (n : ℕ) (s : MendingBoards) → s.mending ≡ None → boards_idled_by n s ≡ s
unfolding boards_idled_by
idled_none zero s none = refl
idled_none (suc n) s none = ap boards_idled (idled_none n s none) ∙ idles_none s none

-- the cursor after so many
moved : Mending → ℕ → Mending
moved m n = record { board = m.board; cursor = m.cursor + n }

more_at : (m : Mending) (n : ℕ) → m.cursor + n + 1 < GLOBAL_WORDS → nat_lt (m.cursor + n + 1) GLOBAL_WORDS ≡ true
more_at m n low = grind (arith, nat_tests)

one_more : (t : MendingBoards) (m : Mending) (n : ℕ) → t.mending ≡ Some (moved m n) → m.cursor + n + 1 < GLOBAL_WORDS → (boards_idled t).mending ≡ Some (moved m (suc n))
unfolding moved
one_more t m n at low =
    let next : m.cursor + n + 1 ≡ m.cursor + suc n = omega arith in
    ap (λ (o : Option Mending). (idled_in t.pair o).mending) at
    ∙ (ap (λ (b : Bool). (copied_more t.pair (moved m n) b).mending) (more_at m n low)
    ∙ ap (λ (c : ℕ). Some (let x : Mending = record { board = m.board; cursor = c } in x)) next)

cursor_at : (n : ℕ) (s : MendingBoards) (m : Mending) → s.mending ≡ Some m → m.cursor + n < GLOBAL_WORDS → (boards_idled_by n s).mending ≡ Some (moved m n)
unfolding boards_idled_by moved
cursor_at zero s m is low =
    let same : m.cursor ≡ m.cursor + 0 = omega arith in
    is ∙ ap (λ (c : ℕ). Some (let x : Mending = record { board = m.board; cursor = c } in x)) same
cursor_at (suc n) s m is low = one_more (boards_idled_by n s) m n (cursor_at n s m is (omega (arith, low))) (omega (arith, low))

silent_at : (o : Option Mending) (n j : ℕ) (s : MendingBoards) → s.mending ≡ o → n < words_left o → j < n → mended_by (boards_idled_by j s).mending ≡ None
unfolding moved
silent_at None n j s is few low = ap (λ (t : MendingBoards). mended_by t.mending) (idled_none j s is) ∙ ap mended_by is
silent_at (Some m) n j s is few low =
    ap mended_by (cursor_at j s m is (omega (arith, few, low)))
    ∙ ap (unless_more m.board) (more_at m j (omega (arith, few, low)))

pub idled_silent : (n : ℕ) (s : MendingBoards) → n < words_left s.mending → (j : ℕ) → j < n → mended_by (boards_idled_by j s).mending ≡ None
idled_silent n s few j low = silent_at s.mending n j s refl few low

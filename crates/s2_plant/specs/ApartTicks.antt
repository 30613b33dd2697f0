-- For proofs alone: ticks at which each processor runs alone. What a tick latches and posts depends on the modules of that tick.
use Rattle.std.specs.Prelude.{ℕ, zero, suc, ◌≡◌, ◌+◌, ◌-◌, ◌<◌, ◌≤◌, ◌&&◌, ◌||◌, nat_le, nat_lt, Bool, true, false, List, [], ◌∷◌, Some, None, slice_index_or, if◌then◌else◌}
use Rattle.std.specs.declared.option.Option.{Option}
use Rattle.s2_ports.specs.declared.requests.Posted.{Posted}
use Rattle.s2_clock.specs.ClockWatch.{is_firing}
use Rattle.s2_voter.specs.VoterState.{VoterState, is_member}
use Rattle.s2_triplex.specs.TriplexState.{module_at, posted_at}
use Rattle.s2_module.specs.ModuleLeads.{module_ticks, posts_at}
use Rattle.s2_module.specs.ModuleRests.{module_idled_by}
use Rattle.s2_triplex.specs.TriplexCores.{TriplexCore}
use Rattle.s2_triplex.specs.ModuleState.{ModuleState}
use Rattle.s2_triplex.specs.TickFirings.{latched_from}
use Rattle.s2_plant.specs.StepParts.{port_of, posting_ticks}
use Rattle.s2_plant.specs.TickRuns.{modules_run}

-- the voter at the verdict of the tick number n, where no verdict before decided, and the ticks of the last postings
unfoldable pub voter_run : TriplexCore → ℕ → ℕ → VoterState → List ModuleState → ℕ → VoterState
voter_run k seen mask v modules zero = v
voter_run k seen mask v modules (suc n) = latched_from (port_of (modules_run k seen mask v (suc n) modules)) (voter_run k seen mask v modules n)

unfoldable pub posted_run : TriplexCore → ℕ → ℕ → ℕ → VoterState → List ModuleState → List ℕ → ℕ → List ℕ
posted_run k seen tick mask v modules posted zero = posted
posted_run k seen tick mask v modules posted (suc n) = posting_ticks k (tick + n + 1) mask v (modules_run k seen mask v n modules) (posted_run k seen tick mask v modules posted n)

-- A processor that was run alone for at most n ticks, up to its first posting: q ticks came before that, or it has not
-- posted, and q is n. One that is no member, or does not fire, was not run.
pub record IsLead (k : TriplexCore) (seen : ℕ) (member fires : Bool) (n q : ℕ) (m m' : ModuleState) : Type 0 where
  pub most : q ≤ n
  pub quiet : (j : ℕ) → j < q → posts_at k seen member fires j m ≡ false
  pub posts : q < n → posts_at k seen member fires q m ≡ true
  pub posted : q < n → m' ≡ module_ticks k seen member fires (suc q) m
  pub silent : q ≡ n → member ≡ true → fires ≡ true → m' ≡ module_ticks k seen member fires n m
  pub still : (fires && member) ≡ false → m' ≡ m

-- the module after the tick that comes after r, once it posted at the one after q
abbrev pub caught_up : Bool → Bool → ℕ → ℕ → ModuleState → ModuleState
caught_up false member q r m = m
caught_up true false q r m = module_idled_by (r + 1) m
caught_up true true q r m = if nat_lt q r then module_idled_by (r - q) m else m

-- the tick of its last posting
abbrev pub posting_by : ℕ → ℕ → ℕ → ℕ → ℕ
posting_by tick q r old = if nat_le q r then tick + q + 1 else old

-- what it has in its port, if it posted by then
abbrev pub port_by : ℕ → ℕ → Option Posted → Option Posted
port_by q r port = if nat_le q r then port else None

-- the second of three numbers in order
abbrev pub second_of : ℕ → ℕ → ℕ → ℕ
second_of a b c = if nat_le a b then (if nat_le b c then b else if nat_le a c then c else a) else (if nat_le a c then a else if nat_le b c then c else b)

-- whether processor p is a member that posts at no tick before number r
abbrev pub is_behind : VoterState → ℕ → ℕ → ℕ → Bool
is_behind v p q r = is_member v p && nat_le r q

abbrev pub is_one_behind : VoterState → ℕ → ℕ → ℕ → ℕ → Bool
is_one_behind v a b c r = is_behind v 0 a r || (is_behind v 1 b r || is_behind v 2 c r)

-- the three processors, each run alone
pub record AreLeads (k : TriplexCore) (seen mask n a b c : ℕ) (v : VoterState) (modules led : List ModuleState) : Type 0 where
  pub first : IsLead k seen (is_member v 0) (is_firing mask 0) n a (module_at modules 0) (module_at led 0)
  pub second : IsLead k seen (is_member v 1) (is_firing mask 1) n b (module_at modules 1) (module_at led 1)
  pub third : IsLead k seen (is_member v 2) (is_firing mask 2) n c (module_at modules 2) (module_at led 2)

-- after how many ticks the last member has posted, and at most n - 1
abbrev pub later : Bool → ℕ → ℕ → ℕ
later member q last = if member && nat_lt last q then q else last

abbrev pub last_posting : VoterState → ℕ → ℕ → ℕ → ℕ
last_posting v a b c = later (is_member v 2) c (later (is_member v 1) b (later (is_member v 0) a 0))

abbrev pub cut_to : ℕ → ℕ → ℕ
cut_to n last = if nat_lt last n then last else n - 1

-- the modules, the ports and the ticks of the last postings, once all have caught up
abbrev pub caught_modules : ℕ → VoterState → ℕ → ℕ → ℕ → ℕ → List ModuleState → List ModuleState
caught_modules mask v a b c r modules =
    caught_up (is_firing mask 0) (is_member v 0) a r (module_at modules 0)
    ∷ caught_up (is_firing mask 1) (is_member v 1) b r (module_at modules 1)
    ∷ caught_up (is_firing mask 2) (is_member v 2) c r (module_at modules 2) ∷ []

abbrev pub one_of_three : Option Posted → Option Posted → Option Posted → ℕ → Option Posted
one_of_three x y z p = slice_index_or (x ∷ y ∷ z ∷ []) p None

abbrev pub ports_by : ℕ → ℕ → ℕ → ℕ → List ModuleState → ℕ → Option Posted
ports_by a b c r modules = one_of_three (port_by a r (port_of modules 0)) (port_by b r (port_of modules 1)) (port_by c r (port_of modules 2))

abbrev pub postings_by : ℕ → ℕ → ℕ → ℕ → ℕ → List ℕ → List ℕ
postings_by tick a b c r posted = posting_by tick a r (posted_at posted 0) ∷ posting_by tick b r (posted_at posted 1) ∷ posting_by tick c r (posted_at posted 2) ∷ []

-- What is kept of a reintegration.
use Rattle.std.specs.Prelude.{ℕ, ◌≡◌, ◌<◌, true, false, length, Some}
use Rattle.std.specs.declared.option.Option.{Option}
use Rattle.s2_base.specs.declared.map.TheConstants.{LOCAL_WORDS}
use Rattle.s2_pages.specs.declared.page_store.TheConstants.{LOCAL_PAGES}
use Rattle.s2_clock.specs.declared.numbers.TheConstants.{REFRESH_PERIOD}
use Rattle.s2_plant_laws.specs.FairClocks.{AreFair}
use Rattle.s2_plant_laws.specs.LocalReplicas.{LocalReplicas}
use Rattle.s2_plant_laws.specs.CopiedPages.{CopiedPages}
use Rattle.s2_triplex.specs.declared.membership.Membership.TheVariants.{Joining}
use Rattle.s2_triplex.specs.ModuleState.{ModuleState}
use Rattle.s2_triplex.specs.TriplexState.{TriplexState, Reintegration, three_of, module_at, membership_at}
use Rattle.s2_triplex.specs.CopyHolds.{is_holding}
use Rattle.s2_triplex_laws.specs.LatchAgreement.{IsGood}

-- what the laws of copied pages read of a machine with an open reintegration
abbrev pub local_replicas : TriplexState → Reintegration → LocalReplicas
local_replicas d j = record {
  locals = three_of (λ p. (module_at d.modules p).local);
  marks = three_of (λ p. (module_at d.modules p).marks);
  join = j.copying;
  disturbed = j.disturbed;
}

-- while the machine holds, no time has passed since the last resume, and no frame's end is due
pub record IsAtHold (d : TriplexState) : Type 0 where
  pub now : d.resumed ≡ d.ticks
  pub due : (p : ℕ) → p < 3 → IsGood d p → (module_at d.modules p).due ≡ false

-- an open reintegration: its processor joins and is the tainted one, and copied pages are equal
pub record IsOpenReintegration (d : TriplexState) (j : Reintegration) : Type 0 where
  pub membership : membership_at d.memberships j.copying.joiner ≡ Joining
  pub tainted : d.tainted ≡ Some j.copying.joiner
  pub copied : CopiedPages (local_replicas d j)
  pub hold : is_holding (Some j) ≡ true → IsAtHold d

-- the open reintegration, which is that of processor p
pub record ReintegrationOf (reintegration : Option Reintegration) (p : ℕ) : Type 0 where
  pub of : Reintegration
  pub is : reintegration ≡ Some of
  pub joiner : of.copying.joiner ≡ p

-- what every module is, also the tainted one, in a machine whose frame has so many cycles
pub record IsModule (cycles : ℕ) (m : ModuleState) : Type 0 where
  pub fires : m.fires < REFRESH_PERIOD
  pub local : length m.local ≡ LOCAL_WORDS
  pub marks : length m.marks ≡ LOCAL_PAGES
  pub frame : m.frame ≡ cycles

-- the modules and the clocks of all three processors; a processor joins only where a reintegration of it is open,
-- and what is then known of that
pub record RepairInvariant (d : TriplexState) : Type 0 where
  pub modules : (p : ℕ) → p < 3 → IsModule d.frame (module_at d.modules p)
  pub fair : AreFair d.windows
  pub joining : (p : ℕ) → p < 3 → membership_at d.memberships p ≡ Joining → ReintegrationOf d.reintegration p
  pub opened : (j : Reintegration) → d.reintegration ≡ Some j → IsOpenReintegration d j

-- How long the request of a good processor waits for its decision.
use Rattle.std.proofs.Common.{◌+◌, ap, ◌∙◌, arith}
use Rattle.s2_plant_laws.specs.ClockPace.{ClockData}
use Rattle.s2_plant_laws.proofs.Waits.{stated_wait}
use Rattle.s2_triplex.specs.TickFirings.{after_firings}
use Rattle.s2_triplex_laws.specs.TriplexInvariant.{skew_data}
use Rattle.s2_triplex_laws.specs.RequestWaits.{RequestsWaitBriefly, VerdictsComeInTime}
use Rattle.s2_triplex_laws.proofs.ClockSteps.{asks_of, clock_is, all_ask, tick_of_clocks}

pub requests_wait : RequestsWaitBriefly
requests_wait k d h p hp g full =
    let within = h.next.within in
    let j = h.next.cycles + 1 in
    let w = stated_wait.between d.frame j p (skew_data d) h.masking.agreement.frame (omega arith) h.skew hp g (ap (λ (c : ClockData). c.full) (clock_is d p hp) ∙ full) in
    let posted = ap (λ (c : ClockData). c.posted) (clock_is d p hp) in
    omega arith

pub verdicts_come : VerdictsComeInTime
verdicts_come k d mask s lawful p hp g full =
    let within = s.invariant.next.within in
    let j = s.invariant.next.cycles + 1 in
    let a = s.invariant.masking.replicas in
    let e = after_firings k d mask in
    let w =
    stated_wait.verdict d.frame j p (asks_of k d) mask (skew_data d) (skew_data e) s.invariant.masking.agreement.frame (omega arith) (all_ask k s.core d a s.invariant.next)
    (tick_of_clocks k s.core d mask s.invariant.masking.agreement a lawful) s.invariant.skew hp g (ap (λ (c : ClockData). c.full) (clock_is e p hp) ∙ full) in
    let posted = ap (λ (c : ClockData). c.posted) (clock_is e p hp) in
    omega arith

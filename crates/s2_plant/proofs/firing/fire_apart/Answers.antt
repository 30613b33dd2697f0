use Rattle.std.proofs.Common.{◌≡◌, ℕ, suc, ◌-◌, ◌<◌, ◌≤◌, List, sym, ap, subst, ◌∙◌, arith}
use Rattle.std.specs.Prelude.{true}
use Rattle.s2_voter.specs.VoterState.{VoterState, is_member}
use Rattle.s2_voter.specs.VoterRests.{aged_voter}
use Rattle.s2_triplex.specs.R2000Triplex.{r2000_triplex}
use Rattle.s2_triplex.specs.ModuleState.{ModuleState}
use Rattle.s2_triplex.specs.TickFirings.{latched_from}
use Rattle.s2_plant.specs.TickRuns.{modules_run}
use Rattle.s2_plant.specs.ApartTicks.{cut_to, is_one_behind, last_posting, ports_by, second_of}
use Rattle.s2_plant.proofs.ApartTicks.{last_behind, last_first, last_second, last_third, last_within, modules_caught, posted_caught, timer_long, voter_caught, waits_until}
use Rattle.s2_plant.proofs.firing.fire_apart.Goals as goal

pub returns-clause-within : goal.returns-clause-within
returns-clause-within c =
    let leads = c.lead_all-leads.result in
    subst (λ (x : ℕ). x < c.args.n) (sym c.last_posting-last.ensures) (last_within c.args.voter.now c.args.n leads.first leads.second leads.third c.requires.some)

caught : (c : goal.After-latch_leads) → c.catch_up_all.new.modules ≡ modules_run r2000_triplex c.args.seen c.args.mask c.args.voter.now (suc c.last_posting-last.result) c.args.modules.now
caught c =
    let leads = c.lead_all-leads.result in
    let v = c.args.voter.now in
    let n = c.args.n in
    let e = sym c.last_posting-last.ensures in
    c.catch_up_all.ensures
    ∙ modules_caught r2000_triplex c.args.seen c.args.mask v c.args.modules.now n leads.first leads.second leads.third c.lead_all-leads.new.modules c.requires.few (timer_long v.timer c.requires.timer) c.lead_all-leads.ensures c.requires.clear c.requires.none
    c.last_posting-last.result
    (subst (λ (x : ℕ). x < n) e (last_within v n leads.first leads.second leads.third c.requires.some))
    (subst (λ (x : ℕ). is_member v 0 ≡ true → x < leads.first → suc x ≡ n) e (last_first v n leads.first leads.second leads.third c.requires.some))
    (subst (λ (x : ℕ). is_member v 1 ≡ true → x < leads.second → suc x ≡ n) e (last_second v n leads.first leads.second leads.third c.requires.some))
    (subst (λ (x : ℕ). is_member v 2 ≡ true → x < leads.third → suc x ≡ n) e (last_third v n leads.first leads.second leads.third c.requires.some))

pub returns-clause-modules : goal.returns-clause-modules
returns-clause-modules c = caught c

pub returns-clause-voter : goal.returns-clause-voter
returns-clause-voter c =
    let leads = c.lead_all-leads.result in
    let v = c.args.voter.now in
    let n = c.args.n in
    let r = c.last_posting-last.result in
    let e = sym c.last_posting-last.ensures in
    c.latch_leads.ensures
    ∙ (ap (λ (ms : List ModuleState). aged_voter (r - second_of leads.first leads.second leads.third) (latched_from (ports_by leads.first leads.second leads.third r ms) v)) (caught c)
    ∙ voter_caught r2000_triplex c.args.seen c.args.mask v c.args.modules.now n leads.first leads.second leads.third c.lead_all-leads.new.modules c.requires.few (timer_long v.timer c.requires.timer) c.lead_all-leads.ensures c.requires.clear c.requires.none
    r
    (subst (λ (x : ℕ). x < n) e (last_within v n leads.first leads.second leads.third c.requires.some))
    (subst (λ (x : ℕ). is_member v 0 ≡ true → x < leads.first → suc x ≡ n) e (last_first v n leads.first leads.second leads.third c.requires.some))
    (subst (λ (x : ℕ). is_member v 1 ≡ true → x < leads.second → suc x ≡ n) e (last_second v n leads.first leads.second leads.third c.requires.some))
    (subst (λ (x : ℕ). is_member v 2 ≡ true → x < leads.third → suc x ≡ n) e (last_third v n leads.first leads.second leads.third c.requires.some)))

pub returns-clause-posted : goal.returns-clause-posted
returns-clause-posted c =
    let leads = c.lead_all-leads.result in
    let v = c.args.voter.now in
    let n = c.args.n in
    let e = sym c.last_posting-last.ensures in
    c.note_leads.ensures.posted
    ∙ posted_caught r2000_triplex c.args.seen c.args.mask v c.args.modules.now n leads.first leads.second leads.third c.lead_all-leads.new.modules c.requires.few (timer_long v.timer c.requires.timer) c.lead_all-leads.ensures c.requires.clear c.requires.none
    c.args.tick c.args.posted.now c.note_leads.ensures.size c.last_posting-last.result
    (subst (λ (x : ℕ). x < n) e (last_within v n leads.first leads.second leads.third c.requires.some))

pub returns-clause-waits : goal.returns-clause-waits
returns-clause-waits c = λ j some low.
    let leads = c.lead_all-leads.result in
    let v = c.args.voter.now in
    let n = c.args.n in
    let e = sym c.last_posting-last.ensures in
    waits_until r2000_triplex c.args.seen c.args.mask v c.args.modules.now n leads.first leads.second leads.third c.lead_all-leads.new.modules c.requires.few (timer_long v.timer c.requires.timer) c.lead_all-leads.ensures c.requires.clear c.requires.none
    c.last_posting-last.result
    (subst (λ (x : ℕ). x < n) e (last_within v n leads.first leads.second leads.third c.requires.some))
    (subst (λ (x : ℕ). 0 < x → is_one_behind v leads.first leads.second leads.third x ≡ true) e (last_behind v n leads.first leads.second leads.third c.requires.some) (omega (arith, some, low)))
    j low

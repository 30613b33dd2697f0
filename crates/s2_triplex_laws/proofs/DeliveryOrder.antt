-- The deliveries that turns tell stand in the order of their run counts.
use Rattle.std.proofs.Common.{ℕ, List, [], ◌∷◌, ◌++◌, sym, subst, arith}
use Rattle.std.specs.Prelude.{Bool, true, false, if◌then◌else◌}
use Rattle.s2_ports.specs.declared.events.Event.{Event}
use Rattle.s2_ports.specs.declared.requests.Request.{Request}
use Rattle.s2_ports.specs.declared.requests.Kind.{Kind}
use Rattle.s2_ports.specs.declared.requests.Kind.TheVariants.{Load, Store, Sync}
use Rattle.s2_voter.specs.declared.verdicts.Verdict.{Verdict}
use Rattle.s2_voter.specs.declared.verdicts.Verdict.TheVariants.{Waiting, Done, Split}
use Rattle.s2_machine.specs.declared.deliveries.Delivery.{Delivery}
use Rattle.s2_triplex.specs.TriplexCores.{TriplexCore}
use Rattle.s2_triplex.specs.TriplexState.{TriplexState}
use Rattle.s2_triplex.specs.TickFirings.{after_firings}
use Rattle.s2_triplex.specs.VotedAccess.{deliveries_at, access_of_kind}
use Rattle.s2_triplex.specs.VoterDecision.{no_effects, after_verdict, tick_verdict}
use Rattle.s2_triplex.specs.CopyHolds.{is_holding, after_hold_tick}
use Rattle.s2_triplex.specs.TickStep.{after_working_tick}
use Rattle.s2_triplex.specs.StepTurns.{tick_turn, act_turn}
use Rattle.s2_script.specs.declared.entry.Act.{Act}
use Rattle.s2_triplex_laws.specs.ReferenceAdvance.{DueUpTo, DueFrom}
use Rattle.s2_triplex_laws.specs.StepNotes.{deliveries_in}
use Rattle.s2_triplex_laws.specs.TriplexExecutions.{AreInRunOrder}
use Rattle.s2_triplex_laws.proofs.DeliveredRuns.{from_at}
use Rattle.s2_triplex_laws.proofs.StepNotes.{tick_tells, act_tells}

-- the deliveries of one frame's end
due_there : (run : ℕ) (es : List Event) → DueFrom run (deliveries_at run es)
due_there run [] = tt
due_there run (e ∷ es) = (omega arith, due_there run es)

order_there : (run : ℕ) (es : List Event) → AreInRunOrder (deliveries_at run es)
order_there run [] = tt
order_there run (e ∷ es) = (due_there run es, order_there run es)

kind_order : (k : TriplexCore) (d : TriplexState) (r : Request) (kind : Kind) → AreInRunOrder (access_of_kind k d r kind).deliveries
kind_order k d r Load = tt
kind_order k d r Store = order_there r.run _
kind_order k d r Sync = order_there r.run _

verdict_order : (k : TriplexCore) (d : TriplexState) (v : Verdict) → AreInRunOrder (after_verdict k d v).effects.deliveries
verdict_order k d Waiting = tt
verdict_order k d Split = tt
verdict_order k d (Done r differ late) = kind_order k d r r.kind

pub tick_order : (k : TriplexCore) (d : TriplexState) (mask : ℕ) → AreInRunOrder (deliveries_in (tick_turn k d mask).notes)
tick_order k d mask = subst AreInRunOrder (sym (tick_tells k d mask).deliveries) (by_hold (is_holding d.reintegration))
  where
    by_hold : (b : Bool) → AreInRunOrder (if b then record { next = after_hold_tick d mask; effects = no_effects } else after_working_tick k d mask).effects.deliveries
    by_hold true = tt
    by_hold false = verdict_order k (after_firings k d mask) (tick_verdict k d mask)

pub act_order : (d : TriplexState) (act : Act) → AreInRunOrder (deliveries_in (act_turn d act).notes)
act_order d act = subst AreInRunOrder (sym (act_tells d act).deliveries) tt

-- one list after another
from_both : (n : ℕ) (ds es : List Delivery) → DueFrom n ds → DueFrom n es → DueFrom n (ds ++ es)
from_both n [] es a b = b
from_both n (d ∷ ds) es a b = (a.0, from_both n ds es a.1 b)

pub order_both : (n : ℕ) (ds es : List Delivery) → AreInRunOrder ds → DueUpTo n ds → DueFrom n es → AreInRunOrder es → AreInRunOrder (ds ++ es)
order_both n [] es a up from b = b
order_both n (d ∷ ds) es a up from b = (from_both d.run ds es a.0 (from_at n d.run es up.0 from), order_both n ds es a.1 up.1 from b)

-- Whoever differs or is late at a decision is put out with its line, and each such line names the tainted processor.
use Rattle.std.proofs.Common.{◌≡◌, ℕ, zero, suc, ◌+◌, ◌<◌, Bool, true, false, cond, List, [], ◌∷◌, ◌++◌, refl, sym, ap, arith, ◌∙◌, subst, inl, inr, ◌⊎◌}
use Rattle.std.specs.Prelude.{Some, None, IfSome, ◌||◌, ◌==◌, nat_lt, length}
use Rattle.std.specs.List.{Contains}
use Rattle.std.specs.declared.option.Option.{Option}
use Rattle.std.proofs.lemmas.Bool.Decides.{nat_tests}
use Rattle.std.proofs.lemmas.List.Elements.{Contains-append_left, Contains-append_right}
use Rattle.s2_ports.specs.declared.events.BoardFault.{BoardFault}
use Rattle.s2_ports.specs.declared.events.BoardFault.TheVariants.{Dead, Flip}
use Rattle.s2_ports.specs.declared.requests.Request.{Request}
use Rattle.s2_voter.specs.declared.verdicts.Verdict.{Verdict}
use Rattle.s2_voter.specs.declared.verdicts.Verdict.TheVariants.{Waiting, Done, Split}
use Rattle.s2_revive.specs.MendingBoards.{mended_by, mending_begins}
use Rattle.s2_join.specs.declared.item.Item.{Item}
use Rattle.s2_join.specs.CopyOrder.{is_last_item}
use Rattle.s2_script.specs.declared.entry.Act.{Act}
use Rattle.s2_script.specs.declared.entry.Act.TheVariants.{Event as EventAct, Poke, PokeLocal, Drive, Mute, Remove, Revive, Board, Mend}
use Rattle.s2_journal.specs.declared.note.Why.{Why}
use Rattle.s2_journal.specs.declared.note.Why.TheVariants.{Differ, Late}
use Rattle.s2_journal.specs.declared.note.Note.{Note}
use Rattle.s2_journal.specs.declared.note.Note.TheVariants.{Delivered, Out, Lost, Repaired, BoardDead, Mend as MendNote, Mended, Join, Joined}
use Rattle.s2_machine.specs.declared.deliveries.Delivery.{Delivery}
use Rattle.s2_triplex.specs.declared.membership.Membership.{Membership}
use Rattle.s2_triplex.specs.declared.membership.Membership.TheVariants.{Out as OutMember}
use Rattle.s2_triplex.specs.declared.numbers.TheConstants.{INBOX_EVENTS}
use Rattle.s2_triplex.specs.R2000Triplex.{r2000_triplex}
use Rattle.s2_triplex.specs.TriplexCores.{TriplexCore}
use Rattle.s2_triplex.specs.TriplexState.{TriplexState, Reintegration, three_of, membership_at, is_out}
use Rattle.s2_triplex.specs.TickFirings.{after_firings}
use Rattle.s2_triplex.specs.VotedAccess.{RepairedWord}
use Rattle.s2_triplex.specs.VoterDecision.{StepEffects, StepResult, no_effects, is_named, membership_unless_left, after_verdict, tick_verdict, is_idle_verdict, is_sync_verdict, voted}
use Rattle.s2_triplex.specs.CopyHolds.{hold_begun, hold_begun_if, is_holding, after_hold_tick}
use Rattle.s2_triplex.specs.TickStep.{after_working_tick, ticked}
use Rattle.s2_triplex.specs.ActStep.{acted, is_revivable}
use Rattle.s2_triplex.specs.StepTurns.{Turn, out_notes, repair_notes, delivery_notes, effect_notes, mended_notes, turn_notes, joined_notes_if, copy_notes, hold_notes, working_turn, hold_turn, tick_turn, board_notes, act_notes}
use Rattle.s2_triplex.specs.TriplexSteps.{TriplexStep, clock_tick, script_act, stepped, step_turn}
use Rattle.s2_triplex_laws.specs.LawfulSteps.{TickDecisions}
use Rattle.s2_triplex_laws.proofs.VoterTurn.{named_in}
use Rattle.s2_run.specs.ScriptRuns.{Stage}
use Rattle.s2_run.specs.MaskedRuns.{NamesWhoDiffers}

-- ---- the lines `out` among notes

abbrev OutsAre : (ℕ → Type 0) → List Note → Type 0
OutsAre P [] = Unit {0}
OutsAre P (Out tick p why ∷ notes) = P p × OutsAre P notes
OutsAre P (Delivered run event ∷ notes) = OutsAre P notes
OutsAre P (Lost tick event ∷ notes) = OutsAre P notes
OutsAre P (Repaired tick board index ∷ notes) = OutsAre P notes
OutsAre P (BoardDead tick board ∷ notes) = OutsAre P notes
OutsAre P (MendNote tick board ∷ notes) = OutsAre P notes
OutsAre P (Mended tick board ∷ notes) = OutsAre P notes
OutsAre P (Join tick p ∷ notes) = OutsAre P notes
OutsAre P (Joined tick p good ∷ notes) = OutsAre P notes

outs_tail : (P : ℕ → Type 0) (note : Note) (notes : List Note) → OutsAre P (note ∷ notes) → OutsAre P notes
outs_tail P (Out tick p why) notes h = h.1
outs_tail P (Delivered run event) notes h = h
outs_tail P (Lost tick event) notes h = h
outs_tail P (Repaired tick board index) notes h = h
outs_tail P (BoardDead tick board) notes h = h
outs_tail P (MendNote tick board) notes h = h
outs_tail P (Mended tick board) notes h = h
outs_tail P (Join tick p) notes h = h
outs_tail P (Joined tick p good) notes h = h

outs_both : (P : ℕ → Type 0) (a b : List Note) → OutsAre P a → OutsAre P b → OutsAre P (a ++ b)
outs_both P [] b x y = y
outs_both P (Out tick p why ∷ a) b x y = (x.0, outs_both P a b x.1 y)
outs_both P (Delivered run event ∷ a) b x y = outs_both P a b x y
outs_both P (Lost tick event ∷ a) b x y = outs_both P a b x y
outs_both P (Repaired tick board index ∷ a) b x y = outs_both P a b x y
outs_both P (BoardDead tick board ∷ a) b x y = outs_both P a b x y
outs_both P (MendNote tick board ∷ a) b x y = outs_both P a b x y
outs_both P (Mended tick board ∷ a) b x y = outs_both P a b x y
outs_both P (Join tick p ∷ a) b x y = outs_both P a b x y
outs_both P (Joined tick p good ∷ a) b x y = outs_both P a b x y

first_or_later : (note x : Note) (notes : List Note) → Contains (note ∷ notes) x → (note ≡ x) ⊎ Contains notes x
first_or_later note x notes (zero, low, is) = inl is
first_or_later note x notes (suc i, low, is) = inr (i, omega arith, is)

outs_each : (P : ℕ → Type 0) (notes : List Note) (tick p : ℕ) (why : Why) → OutsAre P notes → Contains notes (Out tick p why) → P p
outs_each P [] tick p why h (i, low, is) = absurd (omega arith)
outs_each P (note ∷ notes) tick p why h c =
    elim (first_or_later note (Out tick p why) notes c) [
      | inl same ↦ (subst (λ (x : Note). OutsAre P (x ∷ notes)) same h).0
      | inr later ↦ outs_each P notes tick p why (outs_tail P note notes h) later
    ]

-- those of a voter's turn are of whoever differs and whoever is late
outs_of : (P : ℕ → Type 0) (tick : ℕ) (why : Why) (o : Option ℕ) → ((p : ℕ) → o ≡ Some p → P p) → OutsAre P (out_notes tick why o)
outs_of P tick why None h = tt
outs_of P tick why (Some p) h = (h p refl, tt)

repair_outs : (P : ℕ → Type 0) (tick : ℕ) (o : Option RepairedWord) → OutsAre P (repair_notes tick o)
repair_outs P tick None = tt
repair_outs P tick (Some word) = tt

delivery_outs : (P : ℕ → Type 0) (ds : List Delivery) → OutsAre P (delivery_notes ds)
delivery_outs P [] = tt
delivery_outs P (d ∷ ds) = delivery_outs P ds

effect_outs : (P : ℕ → Type 0) (tick : ℕ) (e : StepEffects) → ((p : ℕ) → e.differ ≡ Some p → P p) → ((p : ℕ) → e.late ≡ Some p → P p) → OutsAre P (effect_notes tick e)
effect_outs P tick e differ late =
    outs_both P (out_notes tick Differ e.differ) (out_notes tick Late e.late ++ (repair_notes tick e.repaired ++ delivery_notes e.deliveries)) (outs_of P tick Differ e.differ differ)
    (outs_both P (out_notes tick Late e.late) (repair_notes tick e.repaired ++ delivery_notes e.deliveries) (outs_of P tick Late e.late late)
    (outs_both P (repair_notes tick e.repaired) (delivery_notes e.deliveries) (repair_outs P tick e.repaired) (delivery_outs P e.deliveries)))

-- an idle turn has none
mended_outs : (P : ℕ → Type 0) (tick : ℕ) (mended : Option ℕ) → OutsAre P (mended_notes tick mended)
mended_outs P tick None = tt
mended_outs P tick (Some board) = tt

turn_outs : (P : ℕ → Type 0) (idle : Bool) (tick : ℕ) (mended : Option ℕ) (e : StepEffects) → ((p : ℕ) → e.differ ≡ Some p → P p) → ((p : ℕ) → e.late ≡ Some p → P p) → OutsAre P (turn_notes idle tick mended e)
turn_outs P true tick mended e differ late = mended_outs P tick mended
turn_outs P false tick mended e differ late = effect_outs P tick e differ late

-- a hold has none
joined_outs : (P : ℕ → Type 0) (b : Bool) (tick : ℕ) (j : Reintegration) → OutsAre P (joined_notes_if b tick j)
joined_outs P true tick j = tt
joined_outs P false tick j = tt

copy_outs : (P : ℕ → Type 0) (tick : ℕ) (j : Reintegration) (items : List Item) → OutsAre P (copy_notes tick j items)
copy_outs P tick j [] = tt
copy_outs P tick j (item ∷ left) = joined_outs P (is_last_item item) tick j

hold_outs : (P : ℕ → Type 0) (tick : ℕ) (o : Option Reintegration) → OutsAre P (hold_notes tick o)
hold_outs P tick None = tt
hold_outs P tick (Some j) = copy_outs P tick j j.copying.left

-- ---- a decision

or_left : (a b : Bool) → a ≡ true → (a || b) ≡ true
or_left true b h = refl
or_left false b h = absurd cc

or_right : (a b : Bool) → b ≡ true → (a || b) ≡ true
or_right true b h = refl
or_right false b h = h

self : (p : ℕ) → (p == p) ≡ true
self p = grind (arith, nat_tests)

differ_named : (differ late : Option ℕ) (p : ℕ) → differ ≡ Some p → is_named differ late p ≡ true
differ_named differ late p is = ap (λ (o : Option ℕ). is_named o late p) is ∙ or_left (p == p) _ (self p)

late_named : (differ late : Option ℕ) (p : ℕ) → late ≡ Some p → is_named differ late p ≡ true
late_named differ late p is = ap (λ (o : Option ℕ). is_named differ o p) is ∙ or_right _ (p == p) (self p)

-- the begin of a hold leaves the memberships and the tainted processor
record SameMembers (d e : TriplexState) : Type 0 where
  memberships : d.memberships ≡ e.memberships
  tainted : d.tainted ≡ e.tainted

begun_same : (d : TriplexState) (o : Option Reintegration) → SameMembers (hold_begun d o) d
begun_same d None = record { memberships = refl; tainted = refl }
begun_same d (Some j) = record { memberships = refl; tainted = refl }

begun_if_same : (b : Bool) (d : TriplexState) → SameMembers (hold_begun_if b d) d
begun_if_same true d = begun_same d d.reintegration
begun_if_same false d = record { memberships = refl; tainted = refl }

-- whoever a verdict names is the tainted processor
record NamesTainted (step : StepResult) : Type 0 where
  differ : (p : ℕ) → step.effects.differ ≡ Some p → step.next.tainted ≡ Some p
  late : (p : ℕ) → step.effects.late ≡ Some p → step.next.tainted ≡ Some p

not_some : (p : ℕ) → None ≡ Some p → ⊥
not_some p h = cc

verdict_names : (k : TriplexCore) (d : TriplexState) (mask : ℕ) (v : Verdict) → TickDecisions k d mask → tick_verdict k d mask ≡ v → NamesTainted (after_verdict k (after_firings k d mask) v)
verdict_names k d mask Waiting h is = record { differ = λ p e. absurd (not_some p e); late = λ p e. absurd (not_some p e) }
verdict_names k d mask Split h is = record { differ = λ p e. absurd (not_some p e); late = λ p e. absurd (not_some p e) }
verdict_names k d mask (Done r differ late) h is =
    let f = h.right r differ late is in
    let n = named_in (after_firings k d mask).voter r differ late is in
    record {
      differ = λ p e. f.tainted p (subst (λ (o : Option ℕ). IfSome o (λ q. q < 3)) e n.0) (differ_named differ late p e);
      late = λ p e. f.tainted p (subst (λ (o : Option ℕ). IfSome o (λ q. q < 3)) e n.1) (late_named differ late p e);
    }

-- ---- the lines `out` of a step name the tainted processor

abbrev IsTaintedIn : TriplexState → ℕ → Type 0
IsTaintedIn d p = d.tainted ≡ Some p

working_outs : (k : TriplexCore) (d : TriplexState) (mask : ℕ) → TickDecisions k d mask → OutsAre (IsTaintedIn (after_working_tick k d mask).next) (working_turn k d mask).notes
working_outs k d mask h =
    let n = verdict_names k d mask (tick_verdict k d mask) h refl in
    let same = (begun_if_same (is_sync_verdict (tick_verdict k d mask)) (voted k d mask).next).tainted in
    turn_outs (IsTaintedIn (after_working_tick k d mask).next) (is_idle_verdict (tick_verdict k d mask)) (d.ticks + 1) (mended_by d.boards.mending) (voted k d mask).effects (λ p e. same ∙ n.differ p e) (λ p e. same ∙ n.late p e)

tick_outs : (k : TriplexCore) (d : TriplexState) (mask : ℕ) (b : Bool) → TickDecisions k d mask →
    OutsAre (IsTaintedIn (cond b (record { next = after_hold_tick d mask; effects = no_effects }) (after_working_tick k d mask)).next) (cond b (hold_turn d) (working_turn k d mask)).notes
tick_outs k d mask true h = hold_outs _ (d.ticks + 1) d.reintegration
tick_outs k d mask false h = working_outs k d mask h

lost_outs : (P : ℕ → Type 0) (b : Bool) (notes : List Note) → OutsAre P notes → OutsAre P (cond b [] notes)
lost_outs P true notes h = tt
lost_outs P false notes h = h

join_outs : (P : ℕ → Type 0) (b : Bool) (notes : List Note) → OutsAre P notes → OutsAre P (cond b notes [])
join_outs P true notes h = h
join_outs P false notes h = tt

board_outs : (P : ℕ → Type 0) (tick : ℕ) (fault : BoardFault) → OutsAre P (board_notes tick fault)
board_outs P tick (Dead board) = tt
board_outs P tick (Flip board index bit) = tt

act_outs : (d : TriplexState) (act : Act) → OutsAre (IsTaintedIn (acted act d)) (act_notes d act)
act_outs d (EventAct event) = lost_outs _ (nat_lt (length d.inbox) INBOX_EVENTS) _ tt
act_outs d (Poke p k v) = tt
act_outs d (PokeLocal p i v) = tt
act_outs d (Drive p posted) = tt
act_outs d (Mute p) = tt
act_outs d (Remove p) = lost_outs _ (is_out (membership_at d.memberships p)) _ (refl, tt)
act_outs d (Revive p) = join_outs _ (is_revivable p d) _ tt
act_outs d (Board fault) = board_outs _ d.ticks fault
act_outs d (Mend board) = join_outs _ (mending_begins board d.boards) _ tt

step_outs : (k : TriplexCore) (d : TriplexState) (step : TriplexStep) → ((mask : ℕ) → step ≡ clock_tick mask → TickDecisions k d mask) → OutsAre (IsTaintedIn (stepped k d step)) (step_turn k d step).notes
step_outs k d (clock_tick mask) h = tick_outs k d mask (is_holding d.reintegration) (h mask refl)
step_outs k d (script_act act) h = act_outs d act

pub outs_name_tainted : (d : TriplexState) (stage : Stage) → stage.state ≡ stepped r2000_triplex d stage.step → stage.turn ≡ step_turn r2000_triplex d stage.step → ((mask : ℕ) → stage.step ≡ clock_tick mask → TickDecisions r2000_triplex d mask) →
    (tick p : ℕ) (why : Why) → Contains stage.turn.notes (Out tick p why) → stage.state.tainted ≡ Some p
outs_name_tainted d stage state turn h tick p why c =
    outs_each (IsTaintedIn stage.state) stage.turn.notes tick p why
    (subst (λ (t : Turn). OutsAre (IsTaintedIn stage.state) t.notes) (sym turn) (subst (λ (e : TriplexState). OutsAre (IsTaintedIn e) (step_turn r2000_triplex d stage.step).notes) (sym state) (step_outs r2000_triplex d stage.step h))) c

-- ---- whoever differs or is late is out, and has its line

three_at : (f : ℕ → Membership) (p : ℕ) → p < 3 → membership_at (three_of f) p ≡ f p
three_at f zero h = refl
three_at f (suc zero) h = refl
three_at f (suc (suc zero)) h = refl
three_at f (suc (suc (suc p))) h = absurd (omega arith)

-- the membership after a working tick that decides
named_out : (k : TriplexCore) (d : TriplexState) (mask : ℕ) (r : Request) (differ late : Option ℕ) (p : ℕ) → p < 3 → tick_verdict k d mask ≡ Done r differ late → is_named differ late p ≡ true → membership_at (after_working_tick k d mask).next.memberships p ≡ OutMember
named_out k d mask r differ late p hp is named =
    let e = after_firings k d mask in
    ap (λ (ms : List Membership). membership_at ms p)
    ((begun_if_same (is_sync_verdict (tick_verdict k d mask)) (voted k d mask).next).memberships ∙ ap (λ (v : Verdict). (after_verdict k e v).next.memberships) is)
    ∙ (three_at (λ q. membership_unless_left (is_named differ late q) (membership_at e.memberships q)) p hp ∙ ap (λ (b : Bool). membership_unless_left b (membership_at e.memberships p)) named)

alone : (note : Note) → Contains (note ∷ []) note
alone note = (0, omega arith, refl)

differ_line : (tick : ℕ) (e : StepEffects) (p : ℕ) → e.differ ≡ Some p → Contains (effect_notes tick e) (Out tick p Differ)
differ_line tick e p is =
    Contains-append_left (out_notes tick Differ e.differ) (out_notes tick Late e.late ++ (repair_notes tick e.repaired ++ delivery_notes e.deliveries)) (Out tick p Differ)
    (subst (λ (o : Option ℕ). Contains (out_notes tick Differ o) (Out tick p Differ)) (sym is) (alone (Out tick p Differ)))

late_line : (tick : ℕ) (e : StepEffects) (p : ℕ) → e.late ≡ Some p → Contains (effect_notes tick e) (Out tick p Late)
late_line tick e p is =
    Contains-append_right (out_notes tick Differ e.differ) (out_notes tick Late e.late ++ (repair_notes tick e.repaired ++ delivery_notes e.deliveries)) (Out tick p Late)
    (Contains-append_left (out_notes tick Late e.late) (repair_notes tick e.repaired ++ delivery_notes e.deliveries) (Out tick p Late)
    (subst (λ (o : Option ℕ). Contains (out_notes tick Late o) (Out tick p Late)) (sym is) (alone (Out tick p Late))))

-- outside of a hold a tick is a working one
tick_works : (k : TriplexCore) (d : TriplexState) (mask : ℕ) → is_holding d.reintegration ≡ false → (ticked k d mask ≡ after_working_tick k d mask) × (tick_turn k d mask ≡ working_turn k d mask)
tick_works k d mask working = (
  ap (λ (b : Bool). cond b (record { next = after_hold_tick d mask; effects = no_effects }) (after_working_tick k d mask)) working,
  ap (λ (b : Bool). cond b (hold_turn d) (working_turn k d mask)) working,
)

pub names_who_differs : (d : TriplexState) (stage : Stage) (mask : ℕ) (r : Request) (differ late : Option ℕ) → stage.state ≡ stepped r2000_triplex d stage.step → stage.turn ≡ step_turn r2000_triplex d stage.step → stage.step ≡ clock_tick mask → is_holding d.reintegration ≡ false →
    TickDecisions r2000_triplex d mask → tick_verdict r2000_triplex d mask ≡ Done r differ late → NamesWhoDiffers d stage mask r
names_who_differs d stage mask r differ late state turn step working h is =
    let k = r2000_triplex in
    let f = h.right r differ late is in
    let works = tick_works k d mask working in
    let next : stage.state ≡ (after_working_tick k d mask).next = state ∙ (ap (stepped k d) step ∙ ap (λ (x : StepResult). x.next) works.0) in
    let told : stage.turn ≡ working_turn k d mask = turn ∙ (ap (step_turn k d) step ∙ works.1) in
    let effects : (voted k d mask).effects ≡ (after_verdict k (after_firings k d mask) (Done r differ late)).effects = ap (λ (v : Verdict). (after_verdict k (after_firings k d mask) v).effects) is in
    let line : (x : Note) → Contains (effect_notes (d.ticks + 1) (voted k d mask).effects) x → Contains (working_turn k d mask).notes x =
    λ x there. subst (λ (v : Verdict). Contains (turn_notes (is_idle_verdict v) (d.ticks + 1) (mended_by d.boards.mending) (voted k d mask).effects) x) (sym is) there in
    let out : (p : ℕ) → p < 3 → is_named differ late p ≡ true → membership_at stage.state.memberships p ≡ OutMember =
    λ p hp named. ap (λ (e : TriplexState). membership_at e.memberships p) next ∙ named_out k d mask r differ late p hp is named in
    record {
      differs = λ p hp differs.
          let named = f.differs p hp differs in
          record {
            out = out p hp (differ_named differ late p named);
            line = subst (λ (t : Turn). Contains t.notes (Out (d.ticks + 1) p Differ)) (sym told) (line (Out (d.ticks + 1) p Differ) (differ_line (d.ticks + 1) (voted k d mask).effects p (ap (λ (e : StepEffects). e.differ) effects ∙ named)));
          };
      late = λ p hp unlatched.
          let named = f.lates p hp unlatched in
          record {
            out = out p hp (late_named differ late p named);
            line = subst (λ (t : Turn). Contains t.notes (Out (d.ticks + 1) p Late)) (sym told) (line (Out (d.ticks + 1) p Late) (late_line (d.ticks + 1) (voted k d mask).effects p (ap (λ (e : StepEffects). e.late) effects ∙ named)));
          };
    }

-- Three processors that run alone, each up to its first posting: the modules, the voter and the ticks of the last
-- postings after each tick, until the last member has posted.
use Rattle.std.proofs.Common.{◌≡◌, ℕ, zero, suc, ◌+◌, ◌-◌, ◌<◌, ◌≤◌, List, [], ◌∷◌, length, refl, sym, ap, subst, inl, inr, ◌∙◌, arith}
use Rattle.std.specs.Prelude.{Bool, true, false, not, nat_le, nat_lt, is_some, is_none, ◌&&◌, ◌||◌, Some, None, if◌then◌else◌}
use Rattle.std.proofs.lemmas.Bool.Decides.{nat_tests}
use Rattle.std.specs.declared.option.Option.{Option}
use Rattle.std.specs.Option.{option_map_or}
use Rattle.s2_ports.specs.declared.requests.Posted.{Posted}
use Rattle.s2_clock.specs.ClockWatch.{is_firing}
use Rattle.s2_voter.specs.declared.verdicts.Verdict.TheVariants.{Waiting, Split}
use Rattle.s2_voter.specs.VoterState.{VoterState, IsTimer, has_two_latches, is_member, latch_of}
use Rattle.s2_voter.specs.VoterCalls.{cleared_voter, older, started_age}
use Rattle.s2_voter.specs.VoterRests.{aged_by, aged_voter}
use Rattle.s2_voter.specs.Verdicts.{agreed_request, done_with, is_due, is_timed_out, is_unlatched, verdict_of}
use Rattle.s2_voter.proofs.Agreement.{verdict_decided}
use Rattle.s2_module.specs.ModuleLeads.{module_ticks, posts_at}
use Rattle.s2_triplex.specs.TriplexCores.{TriplexCore}
use Rattle.s2_triplex.specs.ModuleState.{ModuleState}
use Rattle.s2_triplex.specs.ModuleFiring.{is_posting, module_ticked}
use Rattle.s2_triplex.specs.TriplexState.{module_at, posted_at}
use Rattle.s2_triplex.specs.TickFirings.{latch_taken, latched_from}
use Rattle.s2_plant.specs.StepParts.{port_of, posting_ticks}
use Rattle.s2_plant.specs.TickRuns.{NoneWait, modules_run}
use Rattle.s2_plant.specs.ApartTicks.{AreLeads, IsLead, caught_modules, caught_up, cut_to, is_behind, is_one_behind, last_posting, later, one_of_three, port_by, ports_by, posted_run, posting_by, postings_by, second_of, voter_run}
use Rattle.s2_plant.proofs.RestRuns.{unlatched_due}
use Rattle.s2_plant.proofs.LeadTicks.{caught, high_is, high_of, latch_step, low_of, outsider_last, port_now, posting, posting_step, there, within_is}

-- which is the second
two_of : Bool → Bool → Bool → Bool
two_of a b c = (a && b) || ((a && c) || (b && c))

two_latches : (x y z : Option Posted) → has_two_latches (x ∷ y ∷ z ∷ []) ≡ two_of (is_some x) (is_some y) (is_some z)
unfolding two_of
two_latches None None None = refl
two_latches None None (Some z) = refl
two_latches None (Some y) None = refl
two_latches None (Some y) (Some z) = refl
two_latches (Some x) None None = refl
two_latches (Some x) None (Some z) = refl
two_latches (Some x) (Some y) None = refl
two_latches (Some x) (Some y) (Some z) = refl

second_by : (a b c j : ℕ) (x y z : Bool) → nat_le a b ≡ x → nat_le b c ≡ y → nat_le a c ≡ z
    → two_of (nat_lt a j) (nat_lt b j) (nat_lt c j) ≡ nat_lt (if x then (if y then b else if z then c else a) else (if z then a else if y then c else b)) j
unfolding two_of
second_by a b c j true true z e f g = grind (arith, nat_tests)
second_by a b c j true false true e f g = grind (arith, nat_tests)
second_by a b c j true false false e f g = grind (arith, nat_tests)
second_by a b c j false y true e f g = grind (arith, nat_tests)
second_by a b c j false true false e f g = grind (arith, nat_tests)
second_by a b c j false false false e f g = grind (arith, nat_tests)

second_is : (a b c j : ℕ) → two_of (nat_lt a j) (nat_lt b j) (nat_lt c j) ≡ nat_lt (second_of a b c) j
second_is a b c j = second_by a b c j (nat_le a b) (nat_le b c) (nat_le a c) refl refl refl

-- a voter's timer
pub timer_long : (timer : ℕ) → IsTimer timer → 128 ≤ timer
timer_long timer (inl h) = omega arith
timer_long timer (inr h) = omega arith

-- the age
age_at : ℕ → ℕ → Option ℕ
age_at s j = if nat_lt s j then Some (j - suc s) else None

age_by_test : (timer s j : ℕ) (two : Bool) → 128 ≤ timer → two ≡ nat_lt s (suc j) → j < 128 → (t u : Bool) → nat_lt s j ≡ t → nat_lt s (suc j) ≡ u
    → started_age two (older timer (if t then Some (j - suc s) else None)) ≡ (if u then Some (suc j - suc s) else None)
age_by_test timer s j two long e h true true f g =
    let low = low_of s j f in
    let up : nat_lt (j - suc s) timer ≡ true = grind (arith, nat_tests) in
    let next : j - suc s + 1 ≡ suc j - suc s = omega arith in
    ap (λ (b : Bool). Some (if b then j - suc s + 1 else j - suc s)) up ∙ ap (λ (x : ℕ). Some x) next
age_by_test timer s j two long e h true false f g = let low = low_of s j f in let up = high_of s (suc j) g in absurd (omega arith)
age_by_test timer s j true long e h false true f g = let up = high_of s j f in let low = low_of s (suc j) g in let none : 0 ≡ suc j - suc s = omega arith in ap (λ (x : ℕ). Some x) none
age_by_test timer s j false long e h false true f g = absurd cc
age_by_test timer s j true long e h false false f g = absurd cc
age_by_test timer s j false long e h false false f g = refl

age_step : (timer s j : ℕ) (two : Bool) → 128 ≤ timer → two ≡ nat_lt s (suc j) → j < 128 → started_age two (older timer (age_at s j)) ≡ age_at s (suc j)
unfolding age_at
age_step timer s j two long e h = age_by_test timer s j two long e h (nat_lt s j) (nat_lt s (suc j)) refl refl

age_first : (timer s r : ℕ) (two : Bool) → 128 ≤ timer → two ≡ nat_lt s (suc r) → r < 128 → aged_by timer (r - s) (started_age two None) ≡ age_at s (suc r)
unfolding age_at
age_first timer s r true long e h =
    let up : nat_lt (0 + (r - s)) timer ≡ true = grind (arith, nat_tests) in
    let same : 0 + (r - s) ≡ suc r - suc s = omega arith in
    ap (λ (b : Bool). Some (if b then 0 + (r - s) else timer)) up
    ∙ (ap (λ (x : ℕ). Some x) same ∙ ap (λ (b : Bool). if b then Some (suc r - suc s) else None) e)
age_first timer s r false long e h = ap (λ (b : Bool). if b then Some (suc r - suc s) else None) e

not_timed : (timer s j : ℕ) → 128 ≤ timer → j ≤ 128 → is_timed_out timer (age_at s j) ≡ false
unfolding age_at
not_timed timer s j long h = by_test (nat_lt s j) refl
  where
    by_test : (t : Bool) → nat_lt s j ≡ t → is_timed_out timer (if t then Some (j - suc s) else None) ≡ false
    by_test true e = let low = low_of s j e in grind (arith, nat_tests)
    by_test false e = refl

-- who is behind is not latched
behind_unlatched : (member : Bool) (q r j : ℕ) (x : Option Posted) → j ≤ r → (member && nat_le r q) ≡ true → (member && is_none (if nat_lt q j then x else None)) ≡ true
behind_unlatched false q r j x h e = absurd cc
behind_unlatched true q r j x h e = let up : nat_lt q j ≡ false = grind (arith, nat_tests) in ap (λ (b : Bool). is_none (if b then x else None)) up

any_three : (x y z x' y' z' : Bool) → (x || (y || z)) ≡ true → (x ≡ true → x' ≡ true) → (y ≡ true → y' ≡ true) → (z ≡ true → z' ≡ true) → (x' || (y' || z')) ≡ true
any_three true y z x' y' z' h f g k = ap (λ (b : Bool). b || (y' || z')) (f refl)
any_three false true z true y' z' h f g k = refl
any_three false true z false y' z' h f g k = ap (λ (b : Bool). b || z') (g refl)
any_three false false true true y' z' h f g k = refl
any_three false false true false true z' h f g k = refl
any_three false false true false false z' h f g k = k refl
any_three false false false x' y' z' h f g k = absurd cc

taken_first : (member : Bool) (p : Option Posted) → (member ≡ false → p ≡ None) → latch_taken member None p ≡ p
taken_first true p h = refl
taken_first false p h = sym (h refl)

same_posted : (posted : List ℕ) → length posted ≡ 3 → posted ≡ posted_at posted 0 ∷ posted_at posted 1 ∷ posted_at posted 2 ∷ []
same_posted [] h = absurd (omega arith)
same_posted (a ∷ []) h = absurd (omega arith)
same_posted (a ∷ b ∷ []) h = absurd (omega arith)
same_posted (a ∷ b ∷ c ∷ []) h = refl
same_posted (a ∷ b ∷ c ∷ e ∷ xs) h = absurd (omega arith)

none_low : (q : ℕ) → nat_lt q 0 ≡ false
none_low q = grind (arith, nat_tests)

module _ (k : TriplexCore) (seen mask : ℕ) (v : VoterState) (modules : List ModuleState) where
  pub first_run : (j : ℕ) → module_at (modules_run k seen mask v j modules) 0 ≡ module_ticks k seen (is_member v 0) (is_firing mask 0) j (module_at modules 0)
  unfolding modules_run module_ticks
  first_run zero = refl
  first_run (suc j) = ap (module_ticked k seen (is_member v 0) (is_firing mask 0)) (first_run j)

  pub second_run : (j : ℕ) → module_at (modules_run k seen mask v j modules) 1 ≡ module_ticks k seen (is_member v 1) (is_firing mask 1) j (module_at modules 1)
  unfolding modules_run module_ticks
  second_run zero = refl
  second_run (suc j) = ap (module_ticked k seen (is_member v 1) (is_firing mask 1)) (second_run j)

  pub third_run : (j : ℕ) → module_at (modules_run k seen mask v j modules) 2 ≡ module_ticks k seen (is_member v 2) (is_firing mask 2) j (module_at modules 2)
  unfolding modules_run module_ticks
  third_run zero = refl
  third_run (suc j) = ap (module_ticked k seen (is_member v 2) (is_firing mask 2)) (third_run j)

  three_are : (r : ℕ) → module_at (modules_run k seen mask v (suc r) modules) 0 ∷ module_at (modules_run k seen mask v (suc r) modules) 1 ∷ module_at (modules_run k seen mask v (suc r) modules) 2 ∷ [] ≡ modules_run k seen mask v (suc r) modules
  unfolding modules_run
  three_are r = refl

  module _ (n a b c : ℕ) (led : List ModuleState) (few : n ≤ 128) (long : 128 ≤ v.timer) (leads : AreLeads k seen mask n a b c v modules led) (clear : v ≡ cleared_voter v) (none : NoneWait v modules) where
    first_latch : ℕ → Option Posted
    first_latch j = if nat_lt a j then posting k seen n a (is_member v 0) (is_firing mask 0) (module_at modules 0) (module_at led 0) leads.first else None

    second_latch : ℕ → Option Posted
    second_latch j = if nat_lt b j then posting k seen n b (is_member v 1) (is_firing mask 1) (module_at modules 1) (module_at led 1) leads.second else None

    third_latch : ℕ → Option Posted
    third_latch j = if nat_lt c j then posting k seen n c (is_member v 2) (is_firing mask 2) (module_at modules 2) (module_at led 2) leads.third else None

    voter_now : ℕ → VoterState
    voter_now j = record { members = v.members; latches = first_latch j ∷ second_latch j ∷ third_latch j ∷ []; age = age_at (second_of a b c) j; timer = v.timer }

    two_now : (j : ℕ) → j ≤ n → has_two_latches (first_latch j ∷ second_latch j ∷ third_latch j ∷ []) ≡ nat_lt (second_of a b c) j
    unfolding first_latch second_latch third_latch
    two_now j h =
        two_latches (first_latch j) (second_latch j) (third_latch j)
        ∙ (ap (λ (x : Bool). two_of x (is_some (second_latch j)) (is_some (third_latch j))) (there k seen n a (is_member v 0) (is_firing mask 0) (module_at modules 0) (module_at led 0) leads.first j h)
        ∙ (ap (λ (x : Bool). two_of (nat_lt a j) x (is_some (third_latch j))) (there k seen n b (is_member v 1) (is_firing mask 1) (module_at modules 1) (module_at led 1) leads.second j h)
        ∙ (ap (λ (x : Bool). two_of (nat_lt a j) (nat_lt b j) x) (there k seen n c (is_member v 2) (is_firing mask 2) (module_at modules 2) (module_at led 2) leads.third j h)
        ∙ second_is a b c j)))

    -- the latches of one more tick
    first_more : (j : ℕ) → suc j ≤ n → latch_taken (is_member v 0) (first_latch j) (port_of (modules_run k seen mask v (suc j) modules) 0) ≡ first_latch (suc j)
    unfolding first_latch
    first_more j h = ap (λ (m : ModuleState). latch_taken (is_member v 0) (first_latch j) m.port) (first_run (suc j))
        ∙ latch_step k seen n a (is_member v 0) (is_firing mask 0) (module_at modules 0) (module_at led 0) leads.first none.first j h

    second_more : (j : ℕ) → suc j ≤ n → latch_taken (is_member v 1) (second_latch j) (port_of (modules_run k seen mask v (suc j) modules) 1) ≡ second_latch (suc j)
    unfolding second_latch
    second_more j h = ap (λ (m : ModuleState). latch_taken (is_member v 1) (second_latch j) m.port) (second_run (suc j))
        ∙ latch_step k seen n b (is_member v 1) (is_firing mask 1) (module_at modules 1) (module_at led 1) leads.second none.second j h

    third_more : (j : ℕ) → suc j ≤ n → latch_taken (is_member v 2) (third_latch j) (port_of (modules_run k seen mask v (suc j) modules) 2) ≡ third_latch (suc j)
    unfolding third_latch
    third_more j h = ap (λ (m : ModuleState). latch_taken (is_member v 2) (third_latch j) m.port) (third_run (suc j))
        ∙ latch_step k seen n c (is_member v 2) (is_firing mask 2) (module_at modules 2) (module_at led 2) leads.third none.third j h

    voter_more : (j : ℕ) → suc j ≤ n → latched_from (port_of (modules_run k seen mask v (suc j) modules)) (voter_now j) ≡ voter_now (suc j)
    unfolding voter_now
    voter_more j h =
        let ports = port_of (modules_run k seen mask v (suc j) modules) in
        let with : List (Option Posted) → VoterState = λ latches. record { members = v.members; latches = latches; age = started_age (has_two_latches latches) (older v.timer (age_at (second_of a b c) j)); timer = v.timer } in
        let aged : Option ℕ → VoterState = λ age. record { members = v.members; latches = first_latch (suc j) ∷ second_latch (suc j) ∷ third_latch (suc j) ∷ []; age = age; timer = v.timer } in
        ap (λ (o : Option Posted). with (o ∷ latch_taken (is_member v 1) (second_latch j) (ports 1) ∷ latch_taken (is_member v 2) (third_latch j) (ports 2) ∷ [])) (first_more j h)
        ∙ (ap (λ (o : Option Posted). with (first_latch (suc j) ∷ o ∷ latch_taken (is_member v 2) (third_latch j) (ports 2) ∷ [])) (second_more j h)
        ∙ (ap (λ (o : Option Posted). with (first_latch (suc j) ∷ second_latch (suc j) ∷ o ∷ [])) (third_more j h)
        ∙ ap aged (age_step v.timer (second_of a b c) j (has_two_latches (first_latch (suc j) ∷ second_latch (suc j) ∷ third_latch (suc j) ∷ [])) long (two_now (suc j) h) (omega arith))))

    start_is : v ≡ voter_now 0
    unfolding voter_now first_latch second_latch third_latch age_at
    start_is =
        let p = posting k seen n a (is_member v 0) (is_firing mask 0) (module_at modules 0) (module_at led 0) leads.first in
        let q = posting k seen n b (is_member v 1) (is_firing mask 1) (module_at modules 1) (module_at led 1) leads.second in
        let r = posting k seen n c (is_member v 2) (is_firing mask 2) (module_at modules 2) (module_at led 2) leads.third in
        let at : Bool → Bool → Bool → Bool → VoterState = λ w x y z. record { members = v.members; latches = (if w then p else None) ∷ (if x then q else None) ∷ (if y then r else None) ∷ []; age = (if z then Some (0 - suc (second_of a b c)) else None); timer = v.timer } in
        clear
        ∙ (ap (λ (b : Bool). at b false false false) (sym (none_low a))
        ∙ (ap (λ (x : Bool). at (nat_lt a 0) x false false) (sym (none_low b))
        ∙ (ap (λ (x : Bool). at (nat_lt a 0) (nat_lt b 0) x false) (sym (none_low c))
        ∙ ap (λ (x : Bool). at (nat_lt a 0) (nat_lt b 0) (nat_lt c 0) x) (sym (none_low (second_of a b c))))))

    voter_is : (j : ℕ) → j ≤ n → voter_run k seen mask v modules j ≡ voter_now j
    unfolding voter_run
    voter_is zero h = start_is
    voter_is (suc j) h = ap (latched_from (port_of (modules_run k seen mask v (suc j) modules))) (voter_is j (omega arith)) ∙ voter_more j h

    -- no decision is due while a member is behind
    due_not : (j r : ℕ) → j ≤ r → r ≤ n → is_one_behind v a b c r ≡ true → is_due (voter_now j) ≡ false
    unfolding voter_now first_latch second_latch third_latch
    due_not j r h low behind =
        let w = voter_now j in
        let some : (is_unlatched w 0 || (is_unlatched w 1 || is_unlatched w 2)) ≡ true =
        any_three (is_behind v 0 a r) (is_behind v 1 b r) (is_behind v 2 c r) (is_unlatched w 0) (is_unlatched w 1) (is_unlatched w 2) behind
        (behind_unlatched (is_member v 0) a r j (posting k seen n a (is_member v 0) (is_firing mask 0) (module_at modules 0) (module_at led 0) leads.first) h)
        (behind_unlatched (is_member v 1) b r j (posting k seen n b (is_member v 1) (is_firing mask 1) (module_at modules 1) (module_at led 1) leads.second) h)
        (behind_unlatched (is_member v 2) c r j (posting k seen n c (is_member v 2) (is_firing mask 2) (module_at modules 2) (module_at led 2) leads.third) h) in
        unlatched_due (is_unlatched w 0) (is_unlatched w 1) (is_unlatched w 2) (is_timed_out v.timer w.age) some (not_timed v.timer (second_of a b c) j long (omega arith))

    waiting_now : (w : VoterState) → is_due w ≡ false → verdict_of w ≡ Waiting
    waiting_now w e = verdict_decided w ∙ ap (λ (x : Bool). if x then option_map_or (done_with w) (agreed_request w.latches) Split else Waiting) e

    pub waits_until : (r : ℕ) → r < n → is_one_behind v a b c r ≡ true → (j : ℕ) → j ≤ r → verdict_of (voter_run k seen mask v modules j) ≡ Waiting
    waits_until r low behind j h = ap verdict_of (voter_is j (omega arith)) ∙ waiting_now (voter_now j) (due_not j r h (omega arith) behind)

    -- where all are after the tick that comes after r
    module _ (r : ℕ) (low : r < n) (first_end : is_member v 0 ≡ true → r < a → suc r ≡ n) (second_end : is_member v 1 ≡ true → r < b → suc r ≡ n) (third_end : is_member v 2 ≡ true → r < c → suc r ≡ n) where
      first_caught : caught_up (is_firing mask 0) (is_member v 0) a r (module_at led 0) ≡ module_ticks k seen (is_member v 0) (is_firing mask 0) (suc r) (module_at modules 0)
      first_caught = caught k seen n a r (is_member v 0) (is_firing mask 0) (module_at modules 0) (module_at led 0) leads.first low first_end

      second_caught : caught_up (is_firing mask 1) (is_member v 1) b r (module_at led 1) ≡ module_ticks k seen (is_member v 1) (is_firing mask 1) (suc r) (module_at modules 1)
      second_caught = caught k seen n b r (is_member v 1) (is_firing mask 1) (module_at modules 1) (module_at led 1) leads.second low second_end

      third_caught : caught_up (is_firing mask 2) (is_member v 2) c r (module_at led 2) ≡ module_ticks k seen (is_member v 2) (is_firing mask 2) (suc r) (module_at modules 2)
      third_caught = caught k seen n c r (is_member v 2) (is_firing mask 2) (module_at modules 2) (module_at led 2) leads.third low third_end

      pub modules_caught : caught_modules mask v a b c r led ≡ modules_run k seen mask v (suc r) modules
      modules_caught =
          ap (λ (m : ModuleState). m ∷ caught_up (is_firing mask 1) (is_member v 1) b r (module_at led 1) ∷ caught_up (is_firing mask 2) (is_member v 2) c r (module_at led 2) ∷ []) (first_caught ∙ sym (first_run (suc r)))
          ∙ (ap (λ (m : ModuleState). module_at (modules_run k seen mask v (suc r) modules) 0 ∷ m ∷ caught_up (is_firing mask 2) (is_member v 2) c r (module_at led 2) ∷ []) (second_caught ∙ sym (second_run (suc r)))
          ∙ (ap (λ (m : ModuleState). module_at (modules_run k seen mask v (suc r) modules) 0 ∷ module_at (modules_run k seen mask v (suc r) modules) 1 ∷ m ∷ []) (third_caught ∙ sym (third_run (suc r)))
          ∙ three_are r))

      first_port : latch_taken (is_member v 0) None (port_by a r (port_of (modules_run k seen mask v (suc r) modules) 0)) ≡ first_latch (suc r)
      unfolding first_latch
      first_port =
          let p = posting k seen n a (is_member v 0) (is_firing mask 0) (module_at modules 0) (module_at led 0) leads.first in
          ap (λ (m : ModuleState). latch_taken (is_member v 0) None (port_by a r m.port)) (first_run (suc r))
          ∙ (ap (latch_taken (is_member v 0) None) (port_now k seen n a (is_member v 0) (is_firing mask 0) (module_at modules 0) (module_at led 0) leads.first r low)
          ∙ taken_first (is_member v 0) (if nat_lt a (suc r) then p else None) (λ e. let end = outsider_last k seen n a (is_member v 0) (is_firing mask 0) (module_at modules 0) (module_at led 0) leads.first e in ap (λ (b : Bool). if b then p else None) (high_is a (suc r) (omega arith))))

      second_port : latch_taken (is_member v 1) None (port_by b r (port_of (modules_run k seen mask v (suc r) modules) 1)) ≡ second_latch (suc r)
      unfolding second_latch
      second_port =
          let p = posting k seen n b (is_member v 1) (is_firing mask 1) (module_at modules 1) (module_at led 1) leads.second in
          ap (λ (m : ModuleState). latch_taken (is_member v 1) None (port_by b r m.port)) (second_run (suc r))
          ∙ (ap (latch_taken (is_member v 1) None) (port_now k seen n b (is_member v 1) (is_firing mask 1) (module_at modules 1) (module_at led 1) leads.second r low)
          ∙ taken_first (is_member v 1) (if nat_lt b (suc r) then p else None) (λ e. let end = outsider_last k seen n b (is_member v 1) (is_firing mask 1) (module_at modules 1) (module_at led 1) leads.second e in ap (λ (b : Bool). if b then p else None) (high_is b (suc r) (omega arith))))

      third_port : latch_taken (is_member v 2) None (port_by c r (port_of (modules_run k seen mask v (suc r) modules) 2)) ≡ third_latch (suc r)
      unfolding third_latch
      third_port =
          let p = posting k seen n c (is_member v 2) (is_firing mask 2) (module_at modules 2) (module_at led 2) leads.third in
          ap (λ (m : ModuleState). latch_taken (is_member v 2) None (port_by c r m.port)) (third_run (suc r))
          ∙ (ap (latch_taken (is_member v 2) None) (port_now k seen n c (is_member v 2) (is_firing mask 2) (module_at modules 2) (module_at led 2) leads.third r low)
          ∙ taken_first (is_member v 2) (if nat_lt c (suc r) then p else None) (λ e. let end = outsider_last k seen n c (is_member v 2) (is_firing mask 2) (module_at modules 2) (module_at led 2) leads.third e in ap (λ (b : Bool). if b then p else None) (high_is c (suc r) (omega arith))))

      voter_end : aged_voter (r - second_of a b c) (latched_from (ports_by a b c r (modules_run k seen mask v (suc r) modules)) v) ≡ voter_now (suc r)
      unfolding voter_now
      voter_end =
          let ports = ports_by a b c r (modules_run k seen mask v (suc r) modules) in
          let s = second_of a b c in
          let with : List (Option Posted) → VoterState = λ latches. record { members = v.members; latches = latches; age = aged_by v.timer (r - s) (started_age (has_two_latches latches) None); timer = v.timer } in
          let aged : Option ℕ → VoterState = λ age. record { members = v.members; latches = first_latch (suc r) ∷ second_latch (suc r) ∷ third_latch (suc r) ∷ []; age = age; timer = v.timer } in
          ap (λ (x : VoterState). aged_voter (r - s) (latched_from ports x)) clear
          ∙ (ap (λ (o : Option Posted). with (o ∷ latch_taken (is_member v 1) None (ports 1) ∷ latch_taken (is_member v 2) None (ports 2) ∷ [])) first_port
          ∙ (ap (λ (o : Option Posted). with (first_latch (suc r) ∷ o ∷ latch_taken (is_member v 2) None (ports 2) ∷ [])) second_port
          ∙ (ap (λ (o : Option Posted). with (first_latch (suc r) ∷ second_latch (suc r) ∷ o ∷ [])) third_port
          ∙ ap aged (age_first v.timer s r (has_two_latches (first_latch (suc r) ∷ second_latch (suc r) ∷ third_latch (suc r) ∷ [])) long (two_now (suc r) (omega arith)) (omega arith)))))

      pub voter_caught : aged_voter (r - second_of a b c) (latched_from (ports_by a b c r (modules_run k seen mask v (suc r) modules)) v) ≡ voter_run k seen mask v modules (suc r)
      voter_caught = voter_end ∙ sym (voter_is (suc r) (omega arith))

    -- the ticks of the last postings
    module _ (tick : ℕ) (posted : List ℕ) (size : length posted ≡ 3) where
      at_first : ℕ → ℕ
      at_first j = if nat_lt a j then tick + a + 1 else posted_at posted 0

      at_second : ℕ → ℕ
      at_second j = if nat_lt b j then tick + b + 1 else posted_at posted 1

      at_third : ℕ → ℕ
      at_third j = if nat_lt c j then tick + c + 1 else posted_at posted 2

      posted_now : ℕ → List ℕ
      posted_now j = at_first j ∷ at_second j ∷ at_third j ∷ []

      posted_zero : posted ≡ posted_now 0
      unfolding posted_now at_first at_second at_third
      posted_zero =
          let at : Bool → Bool → Bool → List ℕ = λ x y z. (if x then tick + a + 1 else posted_at posted 0) ∷ (if y then tick + b + 1 else posted_at posted 1) ∷ (if z then tick + c + 1 else posted_at posted 2) ∷ [] in
          same_posted posted size
          ∙ (ap (λ (x : Bool). at x false false) (sym (none_low a))
          ∙ (ap (λ (x : Bool). at (nat_lt a 0) x false) (sym (none_low b))
          ∙ ap (λ (x : Bool). at (nat_lt a 0) (nat_lt b 0) x) (sym (none_low c))))

      posted_more : (j : ℕ) → suc j ≤ n → posting_ticks k (tick + j + 1) mask v (modules_run k seen mask v j modules) (posted_now j) ≡ posted_now (suc j)
      unfolding posted_now at_first at_second at_third
      posted_more j h =
          let t : Bool → ModuleState → Bool → ℕ → ℕ = λ f m member old. if (f && is_posting k m member) then tick + j + 1 else old in
          let run = modules_run k seen mask v j modules in
          ap (λ (m : ModuleState). t (is_firing mask 0) m (is_member v 0) (at_first j) ∷ t (is_firing mask 1) (module_at run 1) (is_member v 1) (at_second j) ∷ t (is_firing mask 2) (module_at run 2) (is_member v 2) (at_third j) ∷ []) (first_run j)
          ∙ (ap (λ (x : ℕ). x ∷ t (is_firing mask 1) (module_at run 1) (is_member v 1) (at_second j) ∷ t (is_firing mask 2) (module_at run 2) (is_member v 2) (at_third j) ∷ [])
          (posting_step k seen n a (is_member v 0) (is_firing mask 0) (module_at modules 0) (module_at led 0) leads.first tick (posted_at posted 0) j h)
          ∙ (ap (λ (m : ModuleState). at_first (suc j) ∷ t (is_firing mask 1) m (is_member v 1) (at_second j) ∷ t (is_firing mask 2) (module_at run 2) (is_member v 2) (at_third j) ∷ []) (second_run j)
          ∙ (ap (λ (x : ℕ). at_first (suc j) ∷ x ∷ t (is_firing mask 2) (module_at run 2) (is_member v 2) (at_third j) ∷ [])
          (posting_step k seen n b (is_member v 1) (is_firing mask 1) (module_at modules 1) (module_at led 1) leads.second tick (posted_at posted 1) j h)
          ∙ (ap (λ (m : ModuleState). at_first (suc j) ∷ at_second (suc j) ∷ t (is_firing mask 2) m (is_member v 2) (at_third j) ∷ []) (third_run j)
          ∙ ap (λ (x : ℕ). at_first (suc j) ∷ at_second (suc j) ∷ x ∷ [])
          (posting_step k seen n c (is_member v 2) (is_firing mask 2) (module_at modules 2) (module_at led 2) leads.third tick (posted_at posted 2) j h)))))

      posted_is : (j : ℕ) → j ≤ n → posted_run k seen tick mask v modules posted j ≡ posted_now j
      unfolding posted_run
      posted_is zero h = posted_zero
      posted_is (suc j) h = ap (posting_ticks k (tick + j + 1) mask v (modules_run k seen mask v j modules)) (posted_is j (omega arith)) ∙ posted_more j h

      posted_end : (r : ℕ) → postings_by tick a b c r posted ≡ posted_now (suc r)
      unfolding posted_now at_first at_second at_third
      posted_end r =
          let at : Bool → Bool → Bool → List ℕ = λ x y z. (if x then tick + a + 1 else posted_at posted 0) ∷ (if y then tick + b + 1 else posted_at posted 1) ∷ (if z then tick + c + 1 else posted_at posted 2) ∷ [] in
          ap (λ (x : Bool). at x (nat_le b r) (nat_le c r)) (within_is a r)
          ∙ (ap (λ (x : Bool). at (nat_lt a (suc r)) x (nat_le c r)) (within_is b r)
          ∙ ap (λ (x : Bool). at (nat_lt a (suc r)) (nat_lt b (suc r)) x) (within_is c r))

      pub posted_caught : (r : ℕ) → r < n → postings_by tick a b c r posted ≡ posted_run k seen tick mask v modules posted (suc r)
      posted_caught r low = posted_end r ∙ sym (posted_is (suc r) (omega arith))

-- the last member to post
later_least : (member : Bool) (q last : ℕ) → last ≤ later member q last
later_least false q last = omega arith
later_least true q last = by_test (nat_lt last q) refl
  where
    by_test : (t : Bool) → nat_lt last q ≡ t → last ≤ (if t then q else last)
    by_test true e = let low = low_of last q e in omega arith
    by_test false e = omega arith

later_own : (member : Bool) (q last : ℕ) → member ≡ true → q ≤ later member q last
later_own false q last h = absurd cc
later_own true q last h = by_test (nat_lt last q) refl
  where
    by_test : (t : Bool) → nat_lt last q ≡ t → q ≤ (if t then q else last)
    by_test true e = omega arith
    by_test false e = high_of last q e

later_who : (member : Bool) (q last r : ℕ) → r ≤ later member q last → (member && nat_le r q) ≡ false → r ≤ last
later_who false q last r h e = h
later_who true q last r h e = by_test (nat_lt last q) refl h
  where
    by_test : (t : Bool) → nat_lt last q ≡ t → r ≤ (if t then q else last) → r ≤ last
    by_test true f g = absurd (grind (arith, nat_tests))
    by_test false f g = g

cut_is : (n last : ℕ) → 0 < n → (cut_to n last < n) × (cut_to n last ≤ last) × (cut_to n last < last → suc (cut_to n last) ≡ n)
cut_is n last h = by_test (nat_lt last n) refl
  where
    by_test : (t : Bool) → nat_lt last n ≡ t → ((if t then last else n - 1) < n) × ((if t then last else n - 1) ≤ last) × ((if t then last else n - 1) < last → suc (if t then last else n - 1) ≡ n)
    by_test true e = (low_of last n e, omega arith, λ x. absurd (omega (arith, x)))
    by_test false e = let up = high_of last n e in (omega arith, omega arith, λ x. omega arith)

three_by : (x y z : Bool) (P : Type 0) → (x ≡ false → y ≡ false → z ≡ false → P) → (P → ⊥) → (x || (y || z)) ≡ true
three_by true y z P f g = refl
three_by false true z P f g = refl
three_by false false true P f g = refl
three_by false false false P f g = absurd (g (f refl refl refl))

module _ (v : VoterState) (n a b c : ℕ) (some : 0 < n) where
  pub last_within : cut_to n (last_posting v a b c) < n
  last_within = (cut_is n (last_posting v a b c) some).0

  end_of : (q : ℕ) → q ≤ last_posting v a b c → cut_to n (last_posting v a b c) < q → suc (cut_to n (last_posting v a b c)) ≡ n
  end_of q h low = (cut_is n (last_posting v a b c) some).2 (omega arith)

  pub last_first : is_member v 0 ≡ true → cut_to n (last_posting v a b c) < a → suc (cut_to n (last_posting v a b c)) ≡ n
  last_first is low =
      let own = later_own (is_member v 0) a 0 is in
      let one = later_least (is_member v 1) b (later (is_member v 0) a 0) in
      let two = later_least (is_member v 2) c (later (is_member v 1) b (later (is_member v 0) a 0)) in
      end_of a (omega arith) low

  pub last_second : is_member v 1 ≡ true → cut_to n (last_posting v a b c) < b → suc (cut_to n (last_posting v a b c)) ≡ n
  last_second is low =
      let own = later_own (is_member v 1) b (later (is_member v 0) a 0) is in
      let two = later_least (is_member v 2) c (later (is_member v 1) b (later (is_member v 0) a 0)) in
      end_of b (omega arith) low

  pub last_third : is_member v 2 ≡ true → cut_to n (last_posting v a b c) < c → suc (cut_to n (last_posting v a b c)) ≡ n
  last_third is low =
      let own = later_own (is_member v 2) c (later (is_member v 1) b (later (is_member v 0) a 0)) is in
      end_of c own low

  pub last_behind : 0 < cut_to n (last_posting v a b c) → is_one_behind v a b c (cut_to n (last_posting v a b c)) ≡ true
  last_behind h =
      let r = cut_to n (last_posting v a b c) in
      let most : r ≤ last_posting v a b c = (cut_is n (last_posting v a b c) some).1 in
      three_by (is_behind v 0 a r) (is_behind v 1 b r) (is_behind v 2 c r) (r ≤ 0)
      (λ x y z. later_who (is_member v 0) a 0 r (later_who (is_member v 1) b (later (is_member v 0) a 0) r (later_who (is_member v 2) c (later (is_member v 1) b (later (is_member v 0) a 0)) r most z) y) x)
      (λ x. omega (arith, x))

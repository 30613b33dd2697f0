-- One processor that runs alone up to its first posting, and then only counts: where it is after each tick.
use Rattle.std.proofs.Common.{◌≡◌, ℕ, zero, suc, ◌+◌, ◌-◌, ◌%◌, ◌<◌, ◌≤◌, List, refl, sym, ap, subst, ◌∙◌, arith}
use Rattle.std.specs.Prelude.{Bool, true, false, not, nat_le, nat_lt, is_some, ◌&&◌, Some, None, if◌then◌else◌}
use Rattle.std.proofs.lemmas.Bool.Decides.{nat_tests}
use Rattle.std.specs.declared.option.Option.{Option}
use Rattle.s2_ports.specs.declared.requests.Posted.{Posted}
use Rattle.s2_machine.specs.declared.ask.Ask.{Ask}
use Rattle.s2_machine.specs.declared.ask.Ask.TheVariants.{Local, Outside}
use Rattle.s2_module.specs.ModuleLeads.{module_ticks, posts_at}
use Rattle.s2_module.specs.ModuleRests.{module_idled_by}
use Rattle.s2_triplex.specs.TriplexCores.{TriplexCore}
use Rattle.s2_triplex.specs.ModuleState.{ModuleState, replica_ask, replica_of}
use Rattle.s2_triplex.specs.ModuleFiring.{after_work, after_work_unless_waiting, is_outside, is_posting, is_working, module_idled, module_ticked}
use Rattle.s2_triplex.specs.TickFirings.{latch_taken}
use Rattle.s2_triplex.specs.CopyHolds.{idled_if}
use Rattle.s2_plant.specs.TickRests.{idled_by_if, is_stirring}
use Rattle.s2_plant.specs.ApartTicks.{IsLead, caught_up, port_by, posting_by}
use Rattle.s2_plant.proofs.QuietTicks.{ticked_port}
use Rattle.s2_plant.proofs.RestTicks.{still}
use Rattle.s2_plant.proofs.RestRuns.{idle_more, port_kept}

-- a firing that posts leaves a request
work_some : (k : TriplexCore) (seen : ℕ) (m : ModuleState) (ask : Ask) → is_outside ask ≡ true → is_some (after_work k seen m ask).port ≡ true
work_some k seen m Local h = absurd cc
work_some k seen m (Outside request) h = refl

fired_some : (k : TriplexCore) (seen : ℕ) (m : ModuleState) (w : Bool) (o : Option Posted) → (w && (not (is_some o) && is_outside (replica_ask k (replica_of m)))) ≡ true
    → is_some (if w then after_work_unless_waiting k seen (module_idled m) o else module_idled m).port ≡ true
fired_some k seen m false o h = absurd cc
fired_some k seen m true (Some posted) h = absurd cc
fired_some k seen m true None h = work_some k seen (module_idled m) (replica_ask k (replica_of m)) h

ticked_some : (k : TriplexCore) (seen : ℕ) (m : ModuleState) (fires member : Bool) → (fires && is_posting k m member) ≡ true → is_some (module_ticked k seen member fires m).port ≡ true
ticked_some k seen m false member h = absurd cc
ticked_some k seen m true member h = fired_some k seen m (is_working m member) m.port h

-- one that waits only counts, and posts nothing
waits_still : (f w s : Bool) → s ≡ true → (f && (w && not s)) ≡ false
waits_still false w s h = refl
waits_still true false s h = refl
waits_still true true true h = refl
waits_still true true false h = absurd cc

waits_quiet : (f w s x : Bool) → s ≡ true → (f && (w && (not s && x))) ≡ false
waits_quiet false w s x h = refl
waits_quiet true false s x h = refl
waits_quiet true true true x h = refl
waits_quiet true true false x h = absurd cc

ticked_still : (k : TriplexCore) (seen : ℕ) (m : ModuleState) (fires member : Bool) → is_some m.port ≡ true → module_ticked k seen member fires m ≡ idled_if fires m
ticked_still k seen m fires member h = still k seen m member fires (waits_still fires (is_working m member) (is_some m.port) h)

outsider_still : (k : TriplexCore) (seen : ℕ) (m : ModuleState) (fires : Bool) → module_ticked k seen false fires m ≡ idled_if fires m
outsider_still k seen m true = refl
outsider_still k seen m false = refl

idled_port : (f : Bool) (m : ModuleState) → (idled_if f m).port ≡ m.port
idled_port true m = refl
idled_port false m = refl

idled_once : (f : Bool) (m : ModuleState) → idled_if f m ≡ idled_by_if f 1 m
idled_once true m = refl
idled_once false m = refl

-- tests of numbers
low_is : (a b : ℕ) → a < b → nat_lt a b ≡ true
low_is a b h = grind (arith, nat_tests)

pub high_is : (a b : ℕ) → b ≤ a → nat_lt a b ≡ false
high_is a b h = grind (arith, nat_tests)

pub low_of : (a b : ℕ) → nat_lt a b ≡ true → a < b
low_of a b h = grind (arith, nat_tests)

pub high_of : (a b : ℕ) → nat_lt a b ≡ false → b ≤ a
high_of a b h = grind (arith, nat_tests)

pub within_is : (a b : ℕ) → nat_le a b ≡ nat_lt a (suc b)
within_is a b = by_test (nat_le a b) refl
  where
    by_test : (t : Bool) → nat_le a b ≡ t → t ≡ nat_lt a (suc b)
    by_test true e = grind (arith, nat_tests)
    by_test false e = grind (arith, nat_tests)

-- one that does not fire stays, and one that is no member only counts
never : (k : TriplexCore) (seen : ℕ) (member : Bool) (m : ModuleState) (j : ℕ) → module_ticks k seen member false j m ≡ m
unfolding module_ticks
never k seen member m zero = refl
never k seen member m (suc j) = never k seen member m j

outsider : (k : TriplexCore) (seen : ℕ) (fires : Bool) (m : ModuleState) (j : ℕ) → module_ticks k seen false fires (suc j) m ≡ idled_by_if fires (suc j) m
unfolding module_ticks
outsider k seen fires m zero = outsider_still k seen m fires ∙ idled_once fires m
outsider k seen fires m (suc j) =
    outsider_still k seen (module_ticks k seen false fires (suc j) m) fires
    ∙ (ap (idled_if fires) (outsider k seen fires m j) ∙ idle_more fires (suc j) m)

outsider_quiet : (k : TriplexCore) (seen : ℕ) (fires : Bool) (m : ModuleState) (j : ℕ) → posts_at k seen false fires j m ≡ false
outsider_quiet k seen true m j = refl
outsider_quiet k seen false m j = refl

module _ (k : TriplexCore) (seen n q : ℕ) (member fires : Bool) (m m' : ModuleState) (lead : IsLead k seen member fires n q m m') where
  -- the request that it posts
  pub posting : Option Posted
  posting = (module_ticks k seen member fires (suc q) m).port

  -- up to the tick before it has none
  pub port_until : member ≡ true → m.port ≡ None → (j : ℕ) → j ≤ q → (module_ticks k seen member fires j m).port ≡ None
  unfolding module_ticks
  port_until is none zero h = none
  port_until is none (suc j) h = ticked_port k seen (module_ticks k seen member fires j m) fires member (lead.quiet j (omega arith)) (port_until is none j (omega arith))

  posting_there : q < n → is_some posting ≡ true
  unfolding posting module_ticks
  posting_there h = ticked_some k seen (module_ticks k seen member fires q m) fires member (lead.posts h)

  -- and from then on that one
  port_step : q < n → (j : ℕ) → q < suc j → (t : Bool) → nat_lt q j ≡ t → (q < j → (module_ticks k seen member fires j m).port ≡ posting) → (module_ticks k seen member fires (suc j) m).port ≡ posting
  unfolding module_ticks posting
  port_step h j low true e before =
      let x = module_ticks k seen member fires j m in
      let is = before (low_of q j e) in
      ap (λ (y : ModuleState). y.port) (ticked_still k seen x fires member (ap is_some is ∙ posting_there h)) ∙ (idled_port fires x ∙ is)
  port_step h j low false e before =
      let up = high_of q j e in
      let same : j ≡ q = omega arith in
      ap (λ (x : ℕ). (module_ticks k seen member fires (suc x) m).port) same

  pub port_from : q < n → (j : ℕ) → q < j → (module_ticks k seen member fires j m).port ≡ posting
  port_from h zero low = absurd (omega arith)
  port_from h (suc j) low = port_step h j low (nat_lt q j) refl (λ l. port_from h j l)

  -- it only counts then
  idled_on : q < n → (i : ℕ) → module_ticks k seen member fires (suc (q + suc i)) m ≡ idled_by_if fires (suc i) (module_ticks k seen member fires (suc q) m)
  unfolding module_ticks
  idled_on h zero =
      let e : q + 1 ≡ suc q = omega arith in
      let x = module_ticks k seen member fires (suc q) m in
      ap (λ (y : ℕ). module_ticks k seen member fires (suc y) m) e
      ∙ (ticked_still k seen x fires member (ap is_some (port_from h (suc q) (omega arith)) ∙ posting_there h) ∙ idled_once fires x)
  idled_on h (suc i) =
      let e : q + suc (suc i) ≡ suc (q + suc i) = omega arith in
      let x = module_ticks k seen member fires (suc (q + suc i)) m in
      ap (λ (y : ℕ). module_ticks k seen member fires (suc y) m) e
      ∙ (ticked_still k seen x fires member (ap is_some (port_from h (suc (q + suc i)) (omega arith)) ∙ posting_there h)
      ∙ (ap (idled_if fires) (idled_on h i) ∙ idle_more fires (suc i) (module_ticks k seen member fires (suc q) m)))

  -- what it posts at a tick
  posts_then : q < n → (j : ℕ) → q < j → posts_at k seen member fires j m ≡ false
  posts_then h j low =
      let x = module_ticks k seen member fires j m in
      waits_quiet fires (is_working x member) (is_some x.port) (is_outside (replica_ask k (replica_of x))) (ap is_some (port_from h j low) ∙ posting_there h)

  posting_by_test : (tick old j : ℕ) → suc j ≤ n → (t u : Bool) → nat_lt q j ≡ t → nat_lt j q ≡ u
      → (if posts_at k seen member fires j m then tick + j + 1 else if t then tick + q + 1 else old) ≡ (if nat_lt q (suc j) then tick + q + 1 else old)
  posting_by_test tick old j h true u e f =
      let low = low_of q j e in
      ap (λ (b : Bool). if b then tick + j + 1 else tick + q + 1) (posts_then (omega arith) j low)
      ∙ ap (λ (b : Bool). if b then tick + q + 1 else old) (sym (low_is q (suc j) (omega arith)))
  posting_by_test tick old j h false true e f =
      let low = low_of j q f in
      ap (λ (b : Bool). if b then tick + j + 1 else old) (lead.quiet j low)
      ∙ ap (λ (b : Bool). if b then tick + q + 1 else old) (sym (high_is q (suc j) (omega arith)))
  posting_by_test tick old j h false false e f =
      let up = high_of q j e in
      let down = high_of j q f in
      let same : j ≡ q = omega arith in
      let here : posts_at k seen member fires j m ≡ true = ap (λ (x : ℕ). posts_at k seen member fires x m) same ∙ lead.posts (omega arith) in
      ap (λ (b : Bool). if b then tick + j + 1 else old) here
      ∙ (ap (λ (x : ℕ). tick + x + 1) same
      ∙ ap (λ (b : Bool). if b then tick + q + 1 else old) (sym (low_is q (suc j) (omega arith))))

  pub posting_step : (tick old j : ℕ) → suc j ≤ n → (if posts_at k seen member fires j m then tick + j + 1 else if nat_lt q j then tick + q + 1 else old) ≡ (if nat_lt q (suc j) then tick + q + 1 else old)
  posting_step tick old j h = posting_by_test tick old j h (nat_lt q j) (nat_lt j q) refl refl

  -- what is latched of it
  pub there : (j : ℕ) → j ≤ n → is_some (if nat_lt q j then posting else None) ≡ nat_lt q j
  there j h = there_by (nat_lt q j) refl
    where
      there_by : (t : Bool) → nat_lt q j ≡ t → is_some (if t then posting else None) ≡ t
      there_by true e = let low = low_of q j e in posting_there (omega arith)
      there_by false e = refl

  pub port_now : (r : ℕ) → r < n → port_by q r (module_ticks k seen member fires (suc r) m).port ≡ (if nat_lt q (suc r) then posting else None)
  port_now r h = ap (λ (b : Bool). if b then (module_ticks k seen member fires (suc r) m).port else None) (within_is q r) ∙ port_now_by (nat_lt q (suc r)) refl
    where
      port_now_by : (t : Bool) → nat_lt q (suc r) ≡ t → (if t then (module_ticks k seen member fires (suc r) m).port else None) ≡ (if t then posting else None)
      port_now_by true e = let low = low_of q (suc r) e in port_from (omega arith) (suc r) low
      port_now_by false e = refl

latched_some : (o p : Option Posted) → is_some o ≡ true → latch_taken true o p ≡ o
latched_some None p h = absurd cc
latched_some (Some x) p h = refl

module _ (k : TriplexCore) (seen n q : ℕ) (fires : Bool) (m m' : ModuleState) where
  latch_member : (lead : IsLead k seen true fires n q m m') → m.port ≡ None → (j : ℕ) → suc j ≤ n → (t u : Bool) → nat_lt q j ≡ t → nat_lt q (suc j) ≡ u
      → latch_taken true (if t then posting k seen n q true fires m m' lead else None) (module_ticks k seen true fires (suc j) m).port ≡ (if u then posting k seen n q true fires m m' lead else None)
  latch_member lead none j h true true e f =
      latched_some (posting k seen n q true fires m m' lead) (module_ticks k seen true fires (suc j) m).port
      (ap (λ (b : Bool). is_some (if b then posting k seen n q true fires m m' lead else None)) (sym e) ∙ (there k seen n q true fires m m' lead j (omega arith) ∙ e))
  latch_member lead none j h true false e f = let low = low_of q j e in let up = high_of q (suc j) f in absurd (omega arith)
  latch_member lead none j h false true e f = let low = low_of q (suc j) f in port_from k seen n q true fires m m' lead (omega arith) (suc j) low
  latch_member lead none j h false false e f = let up = high_of q (suc j) f in port_until k seen n q true fires m m' lead refl none (suc j) up

  outsider_end : IsLead k seen false fires n q m m' → q ≡ n
  outsider_end lead = by_test (nat_lt q n) refl
    where
      by_test : (t : Bool) → nat_lt q n ≡ t → q ≡ n
      by_test true e = let is : posts_at k seen false fires q m ≡ true = lead.posts (low_of q n e) in let is_not = outsider_quiet k seen fires m q in absurd cc
      by_test false e = let up = high_of q n e in let most = lead.most in omega arith

pub latch_step : (k : TriplexCore) (seen n q : ℕ) (member fires : Bool) (m m' : ModuleState) (lead : IsLead k seen member fires n q m m') → (member ≡ true → m.port ≡ None) → (j : ℕ) → suc j ≤ n
    → latch_taken member (if nat_lt q j then posting k seen n q member fires m m' lead else None) (module_ticks k seen member fires (suc j) m).port ≡ (if nat_lt q (suc j) then posting k seen n q member fires m m' lead else None)
latch_step k seen n q true fires m m' lead none j h = latch_member k seen n q fires m m' lead (none refl) j h (nat_lt q j) (nat_lt q (suc j)) refl refl
latch_step k seen n q false fires m m' lead none j h =
    let end = outsider_end k seen n q fires m m' lead in
    let p = posting k seen n q false fires m m' lead in
    let port = (module_ticks k seen false fires (suc j) m).port in
    ap (λ (b : Bool). latch_taken false (if b then p else None) port) (high_is q j (omega arith))
    ∙ ap (λ (b : Bool). if b then p else None) (sym (high_is q (suc j) (omega arith)))

-- the module, once it has caught up
caught_member : (k : TriplexCore) (seen n q r : ℕ) (m m' : ModuleState) → IsLead k seen true true n q m m' → r < n → (r < q → suc r ≡ n) → (t u : Bool) → nat_lt q r ≡ t → nat_lt r q ≡ u
    → (if t then module_idled_by (r - q) m' else m') ≡ module_ticks k seen true true (suc r) m
caught_member k seen n q r m m' lead h end true u e f =
    let low = low_of q r e in
    let i : r - q ≡ suc (r - q - 1) = omega arith in
    let same : suc (q + suc (r - q - 1)) ≡ suc r = omega arith in
    ap (module_idled_by (r - q)) (lead.posted (omega arith))
    ∙ (ap (λ (x : ℕ). module_idled_by x (module_ticks k seen true true (suc q) m)) i
    ∙ (sym (idled_on k seen n q true true m m' lead (omega arith) (r - q - 1)) ∙ ap (λ (x : ℕ). module_ticks k seen true true x m) same))
caught_member k seen n q r m m' lead h end false true e f =
    let last = end (low_of r q f) in
    let most = lead.most in
    let low = low_of r q f in
    lead.silent (omega arith) refl refl ∙ ap (λ (x : ℕ). module_ticks k seen true true x m) (sym last)
caught_member k seen n q r m m' lead h end false false e f =
    let up = high_of q r e in
    let down = high_of r q f in
    let same : suc q ≡ suc r = omega arith in
    lead.posted (omega arith) ∙ ap (λ (x : ℕ). module_ticks k seen true true x m) same

pub caught : (k : TriplexCore) (seen n q r : ℕ) (member fires : Bool) (m m' : ModuleState) → IsLead k seen member fires n q m m' → r < n → (member ≡ true → r < q → suc r ≡ n)
    → caught_up fires member q r m' ≡ module_ticks k seen member fires (suc r) m
caught k seen n q r member false m m' lead h end = lead.still refl ∙ sym (never k seen member m (suc r))
caught k seen n q r false true m m' lead h end =
    let one : r + 1 ≡ suc r = omega arith in
    ap (module_idled_by (r + 1)) (lead.still refl) ∙ (ap (λ (x : ℕ). module_idled_by x m) one ∙ sym (outsider k seen true m r))
caught k seen n q r true true m m' lead h end = caught_member k seen n q r m m' lead h (end refl) (nat_lt q r) (nat_lt r q) refl refl

pub outsider_last : (k : TriplexCore) (seen n q : ℕ) (member fires : Bool) (m m' : ModuleState) → IsLead k seen member fires n q m m' → member ≡ false → q ≡ n
outsider_last k seen n q true fires m m' lead e = absurd cc
outsider_last k seen n q false fires m m' lead e = outsider_end k seen n q fires m m' lead

-- Firings of a module that run cycles, one after another.
use Rattle.std.proofs.Common.{◌≡◌, ◌≢◌, ℕ, zero, suc, ◌+◌, ◌-◌, ◌%◌, ◌<◌, ◌≤◌, List, refl, sym, ap, subst, ◌∙◌, arith}
use Rattle.std.specs.Prelude.{Bool, true, false, not, nat_lt, is_some, ◌==◌, ◌&&◌, None, if◌then◌else◌}
use Rattle.std.proofs.lemmas.Bool.Decides.{nat_tests}
use Rattle.std.specs.declared.option.Option.{Option}
use Rattle.s2_core.specs.Working.{is_local}
use Rattle.s2_core.proofs.CarriedOut.{asks_nothing}
use Rattle.s2_cpu.specs.Processor.{Processor}
use Rattle.s2_ports.specs.declared.requests.Posted.{Posted}
use Rattle.s2_machine.specs.LocalWork.{after_turn, ask_of, local_after_turn, marks_after_turn}
use Rattle.s2_machine.specs.declared.ask.Ask.{Ask}
use Rattle.s2_machine.specs.declared.ask.Ask.TheVariants.{Local, Outside}
use Rattle.s2_triplex.specs.TriplexCores.{TriplexCore}
use Rattle.s2_triplex.specs.R2000Triplex.{r2000_triplex}
use Rattle.s2_triplex.specs.ModuleState.{ModuleState, ask_unless_due, is_frame_end, replica_ask, replica_of}
use Rattle.s2_triplex.specs.ModuleFiring.{after_work, after_work_unless_waiting, is_outside, is_posting, is_working, module_fired, module_idled, module_ticked}
use Rattle.s2_module.specs.ModuleLeads.{AreTurns, IsAsking, IsRunning, IsTurned, Turning, module_ticks, posts_at, turned, turning_of, turns}

-- the start, and one cycle more
pub turned_start : (p : Processor) (l : List ℕ) (ms : List Bool) → IsTurned 0 (record { cpu = p; local = l; marks = ms }) p l ms
unfolding turns
turned_start p l ms = record { cpu = refl; local = refl; marks = refl }

turning_is : (n : ℕ) (s : Turning) (p : Processor) (l : List ℕ) (ms : List Bool) → IsTurned n s p l ms → (let t : Turning = record { cpu = p; local = l; marks = ms } in t) ≡ turns n s
turning_is n s p l ms h =
    let t : Turning = turns n s in
    ap (λ (q : Processor). let u : Turning = record { cpu = q; local = l; marks = ms } in u) h.cpu
    ∙ (ap (λ (x : List ℕ). let u : Turning = record { cpu = t.cpu; local = x; marks = ms } in u) h.local
    ∙ ap (λ (x : List Bool). let u : Turning = record { cpu = t.cpu; local = t.local; marks = x } in u) h.marks)

pub turned_more : (n : ℕ) (s : Turning) (p p' : Processor) (l l' : List ℕ) (ms ms' : List Bool) → IsTurned n s p l ms
    → p' ≡ after_turn p l → l' ≡ local_after_turn p l → ms' ≡ marks_after_turn p l ms → IsTurned (n + 1) s p' l' ms'
unfolding turns
turned_more n s p p' l l' ms ms' h a b c =
    let one : suc n ≡ n + 1 = omega arith in
    let is = turning_is n s p l ms h in
    record {
      cpu = a ∙ (ap (λ (t : Turning). after_turn t.cpu t.local) is ∙ ap (λ (i : ℕ). (turns i s).cpu) one);
      local = b ∙ (ap (λ (t : Turning). local_after_turn t.cpu t.local) is ∙ ap (λ (i : ℕ). (turns i s).local) one);
      marks = c ∙ (ap (λ (t : Turning). marks_after_turn t.cpu t.local t.marks) is ∙ ap (λ (i : ℕ). (turns i s).marks) one);
    }

pub stays_at : (n : ℕ) (s : Turning) (p : Processor) (l : List ℕ) (ms : List Bool) (b : Bool) → IsTurned n s p l ms → b ≡ true → b ≡ is_local (ask_of p l) → is_local (ask_of (turns n s).cpu (turns n s).local) ≡ true
stays_at n s p l ms b h e is = ap (λ (t : Turning). is_local (ask_of t.cpu t.local)) (sym (turning_is n s p l ms h)) ∙ (sym is ∙ e)

pub ends_at : (frame n : ℕ) (s : Turning) (p : Processor) (l : List ℕ) (ms : List Bool) (b : Bool) → IsTurned n s p l ms → b ≡ false → b ≡ is_frame_end frame p.run → is_frame_end frame (turns n s).cpu.run ≡ false
ends_at frame n s p l ms b h e is = ap (λ (q : Processor). is_frame_end frame q.run) (sym h.cpu) ∙ (sym is ∙ e)

pub within_more : (frame n : ℕ) (s : Turning) → ((j : ℕ) → 0 < j → j < suc n → is_frame_end frame (turns j s).cpu.run ≡ false) → is_frame_end frame (turns (n + 1) s).cpu.run ≡ false
    → (j : ℕ) → 0 < j → j < suc (n + 1) → is_frame_end frame (turns j s).cpu.run ≡ false
within_more frame n s h last j a b = by_test (nat_lt j (suc n)) refl
  where
    by_test : (t : Bool) → nat_lt j (suc n) ≡ t → is_frame_end frame (turns j s).cpu.run ≡ false
    by_test true e = let low : j < suc n = grind (arith, nat_tests) in h j a low
    by_test false e = let same : j ≡ n + 1 = grind (arith, nat_tests) in ap (λ (i : ℕ). is_frame_end frame (turns i s).cpu.run) same ∙ last

-- a firing that runs a cycle
module _ (seen : ℕ) (x : ModuleState) (heard : x.muted ≡ false) (free : x.port ≡ None) (going : x.due ≡ false) (low : nat_lt x.fires 254 ≡ true) (asks : ask_of x.cpu x.local ≡ Local) where
  asks_local : replica_ask r2000_triplex (replica_of x) ≡ Local
  asks_local = ap (λ (b : Bool). ask_unless_due r2000_triplex (replica_of x) b) going ∙ asks

  works : is_working x true ≡ true
  works = ap (λ (b : Bool). not b && nat_lt x.fires 254) heard ∙ low

  ran_cycle : ModuleState
  ran_cycle = record x { cpu = after_turn x.cpu x.local; local = local_after_turn x.cpu x.local; marks = marks_after_turn x.cpu x.local x.marks; fires = (x.fires + 1) % 256; due = is_frame_end x.frame (after_turn x.cpu x.local).run }

  fired_local : module_fired r2000_triplex seen true x ≡ ran_cycle
  unfolding ran_cycle
  fired_local =
      ap (λ (w : Bool). if w then after_work_unless_waiting r2000_triplex seen (module_idled x) x.port else module_idled x) works
      ∙ (ap (λ (o : Option Posted). after_work_unless_waiting r2000_triplex seen (module_idled x) o) free
      ∙ ap (λ (a : Ask). after_work r2000_triplex seen (module_idled x) a) asks_local)

  quiet_by : (w s : Bool) → (w && (s && false)) ≡ false
  quiet_by true true = refl
  quiet_by true false = refl
  quiet_by false s = refl

  fired_quiet : is_posting r2000_triplex x true ≡ false
  fired_quiet = ap (λ (a : Ask). is_working x true && (not (is_some x.port) && is_outside a)) asks_local ∙ quiet_by (is_working x true) (not (is_some x.port))

-- so many
pub ran_module : ModuleState → ℕ → ModuleState
ran_module m j = record m { cpu = (turns j (turning_of m)).cpu; local = (turns j (turning_of m)).local; marks = (turns j (turning_of m)).marks; fires = m.fires + j; due = nat_lt 0 j && is_frame_end m.frame (turns j (turning_of m)).cpu.run }

and_none : (a b : Bool) → b ≡ false → (a && b) ≡ false
and_none true b h = h
and_none false b h = refl

module _ (m : ModuleState) (n : ℕ) (run : IsRunning m) (room : 0 < n → m.fires + n ≤ 254) (all : AreTurns m.frame n (turning_of m)) where
  due_at : (j : ℕ) → j < n → (nat_lt 0 j && is_frame_end m.frame (turns j (turning_of m)).cpu.run) ≡ false
  due_at zero h = refl
  due_at (suc j) h = and_none (nat_lt 0 (suc j)) _ (all.within (suc j) (omega arith) h)

  low_at : (j : ℕ) → j < n → nat_lt (m.fires + j) 254 ≡ true
  low_at j h = let most = room (omega arith) in grind (arith, nat_tests)

  asks_at : (j : ℕ) → j < n → ask_of (turns j (turning_of m)).cpu (turns j (turning_of m)).local ≡ Local
  asks_at j h = sym (asks_nothing _ (sym (all.stays j h)))

  one_more : (seen j : ℕ) → j < n → module_fired r2000_triplex seen true (ran_module m j) ≡ ran_module m (suc j)
  unfolding ran_module turns ran_cycle
  one_more seen j h =
      let most = room (omega arith) in
      let t = turns j (turning_of m) in
      let count : (m.fires + j + 1) % 256 ≡ m.fires + suc j = omega arith in
      let some : true ≡ nat_lt 0 (suc j) = grind (arith, nat_tests) in
      fired_local seen (ran_module m j) run.heard run.free (due_at j h) (low_at j h) (asks_at j h)
      ∙ (ap (λ (f : ℕ). record m { cpu = after_turn t.cpu t.local; local = local_after_turn t.cpu t.local; marks = marks_after_turn t.cpu t.local t.marks; fires = f; due = is_frame_end m.frame (after_turn t.cpu t.local).run }) count
      ∙ ap (λ (b : Bool). record m { cpu = after_turn t.cpu t.local; local = local_after_turn t.cpu t.local; marks = marks_after_turn t.cpu t.local t.marks; fires = m.fires + suc j; due = b && is_frame_end m.frame (after_turn t.cpu t.local).run }) some)

  ran_zero : m ≡ ran_module m 0
  unfolding ran_module turns
  ran_zero =
      let count : m.fires ≡ m.fires + 0 = omega arith in
      ap (λ (f : ℕ). record m { fires = f }) count ∙ ap (λ (b : Bool). record m { fires = m.fires + 0; due = b }) run.going

  pub ran_is : (seen j : ℕ) → j ≤ n → module_ticks r2000_triplex seen true true j m ≡ ran_module m j
  unfolding module_ticks
  ran_is seen zero h = ran_zero
  ran_is seen (suc j) h = ap (module_fired r2000_triplex seen true) (ran_is seen j (omega arith)) ∙ one_more seen j (omega arith)

  quiet_here : (seen j : ℕ) → j < n → is_posting r2000_triplex (ran_module m j) true ≡ false
  unfolding ran_module
  quiet_here seen j h = fired_quiet seen (ran_module m j) run.heard run.free (due_at j h) (low_at j h) (asks_at j h)

  pub ran_quiet : (seen j : ℕ) → j < n → posts_at r2000_triplex seen true true j m ≡ false
  ran_quiet seen j h = ap (λ (x : ModuleState). is_posting r2000_triplex x true) (ran_is seen j (omega arith)) ∙ quiet_here seen j h

-- a firing whose cycle asks
module _ (seen : ℕ) (x : ModuleState) (h : IsAsking x) where
  asks_cycle : replica_ask r2000_triplex (replica_of x) ≡ ask_of x.cpu x.local
  asks_cycle = ap (λ (b : Bool). ask_unless_due r2000_triplex (replica_of x) b) h.running.going

  may_work : is_working x true ≡ true
  may_work = ap (λ (b : Bool). not b && nat_lt x.fires 254) h.running.heard ∙ h.works

  pub fired_asking : module_fired r2000_triplex seen true x ≡ after_work r2000_triplex seen (module_idled x) (ask_of x.cpu x.local)
  fired_asking =
      ap (λ (w : Bool). if w then after_work_unless_waiting r2000_triplex seen (module_idled x) x.port else module_idled x) may_work
      ∙ (ap (λ (o : Option Posted). after_work_unless_waiting r2000_triplex seen (module_idled x) o) h.running.free
      ∙ ap (λ (a : Ask). after_work r2000_triplex seen (module_idled x) a) asks_cycle)

  asks_outside : (a : Ask) → is_local a ≡ false → is_outside a ≡ true
  asks_outside Local e = absurd cc
  asks_outside (Outside r) e = refl

  pub posts_asking : is_posting r2000_triplex x true ≡ true
  posts_asking =
      ap (λ (w : Bool). w && (not (is_some x.port) && is_outside (replica_ask r2000_triplex (replica_of x)))) may_work
      ∙ (ap (λ (o : Option Posted). not (is_some o) && is_outside (replica_ask r2000_triplex (replica_of x))) h.running.free
      ∙ (ap is_outside asks_cycle ∙ asks_outside (ask_of x.cpu x.local) h.asks))

asks_still : (x : ModuleState) → IsAsking x → ask_of x.cpu x.local ≢ Local
asks_still x h e = let local : is_local (ask_of x.cpu x.local) ≡ true = ap is_local e in let outside = h.asks in cc

pub asks_idled : (x e : ModuleState) → IsAsking x → e ≡ module_idled x → ask_of e.cpu e.local ≢ Local
asks_idled x e h is = subst (λ (y : ModuleState). ask_of y.cpu y.local ≢ Local) (sym is) (asks_still x h)

-- the cycles ended before they had to, and no frame's end is due
both_hold : (a b : Bool) → (a && not b) ≡ true → (a ≡ true) × (b ≡ false)
both_hold true false h = (refl, refl)
both_hold true true h = absurd cc
both_hold false b h = absurd cc

pub asking_next : (m i : ModuleState) (n most : ℕ) (p : Processor) (l : List ℕ) (ms : List Bool) (f : ℕ) (due b : Bool) → i ≡ m → IsRunning m → f ≡ i.fires + n → (0 < most → i.fires + most ≤ 254)
    → due ≡ (nat_lt 0 n && is_frame_end i.frame p.run) → (n < most → (nat_lt 0 n && is_frame_end i.frame p.run) ≡ false → is_local (ask_of p l) ≡ false)
    → b ≡ (nat_lt n most && not due) → b ≡ true → IsAsking (record i { cpu = p; local = l; marks = ms; fires = f; due = due })
asking_next m i n most p l ms f due b same run count room ends next is told =
    let (fewer, none) = both_hold (nat_lt n most) due (sym is ∙ told) in
    let low : n < most = grind (arith, nat_tests) in
    let within = room (omega (arith, low)) in
    let running : IsRunning i = subst IsRunning (sym same) run in
    record {
      running = record { heard = running.heard; free = running.free; going = none };
      works = (let small : f < 254 = omega (arith, count, within, low) in grind (arith, nat_tests));
      asks = next low (sym ends ∙ none);
    }

-- ticks after ticks
pub ticks_more : (seen q r : ℕ) (m : ModuleState) → module_ticks r2000_triplex seen true true r (module_ticks r2000_triplex seen true true q m) ≡ module_ticks r2000_triplex seen true true (q + r) m
unfolding module_ticks
ticks_more seen q zero m = let same : q ≡ q + 0 = omega arith in ap (λ (i : ℕ). module_ticks r2000_triplex seen true true i m) same
ticks_more seen q (suc r) m =
    let next : suc (q + r) ≡ q + suc r = omega arith in
    ap (module_fired r2000_triplex seen true) (ticks_more seen q r m) ∙ ap (λ (i : ℕ). module_ticks r2000_triplex seen true true i m) next

pub quiet_more : (seen q r : ℕ) (m x : ModuleState) → x ≡ module_ticks r2000_triplex seen true true q m → ((j : ℕ) → j < q → posts_at r2000_triplex seen true true j m ≡ false)
    → ((j : ℕ) → j < r → posts_at r2000_triplex seen true true j x ≡ false) → (j : ℕ) → j < q + r → posts_at r2000_triplex seen true true j m ≡ false
quiet_more seen q r m x is first more j h = by_test (nat_lt j q) refl
  where
    by_test : (t : Bool) → nat_lt j q ≡ t → posts_at r2000_triplex seen true true j m ≡ false
    by_test true e = let low : j < q = grind (arith, nat_tests) in first j low
    by_test false e =
        let up : q ≤ j = grind (arith, nat_tests) in
        let parts : q + (j - q) ≡ j = omega arith in
        sym (ap (λ (y : ModuleState). posts_at r2000_triplex seen true true (j - q) y) is
        ∙ (ap (λ (y : ModuleState). is_posting r2000_triplex y true) (ticks_more seen q (j - q) m)
        ∙ ap (λ (i : ℕ). posts_at r2000_triplex seen true true i m) parts)) ∙ more (j - q) (omega arith)

-- the parts of a module after so many
pub ran_on : (m i : ModuleState) (n : ℕ) (p : Processor) (l : List ℕ) (ms : List Bool) (f : ℕ) (due : Bool) → i ≡ m → IsRunning m → (0 < n → i.fires + n ≤ 254) → AreTurns i.frame n (turning_of i)
    → p ≡ (turns n (turning_of i)).cpu → l ≡ (turns n (turning_of i)).local → ms ≡ (turns n (turning_of i)).marks → f ≡ i.fires + n → due ≡ (nat_lt 0 n && is_frame_end i.frame p.run)
    → (seen : ℕ) → record i { cpu = p; local = l; marks = ms; fires = f; due = due } ≡ module_ticks r2000_triplex seen true true n m
unfolding ran_module
ran_on m i n p l ms f due same run room all a b c d e seen =
    let t = turns n (turning_of i) in
    ap (λ (x : Bool). record i { cpu = p; local = l; marks = ms; fires = f; due = x }) e
    ∙ (ap (λ (q : Processor). record i { cpu = q; local = l; marks = ms; fires = f; due = nat_lt 0 n && is_frame_end i.frame q.run }) a
    ∙ (ap (λ (x : List ℕ). record i { cpu = t.cpu; local = x; marks = ms; fires = f; due = nat_lt 0 n && is_frame_end i.frame t.cpu.run }) b
    ∙ (ap (λ (x : List Bool). record i { cpu = t.cpu; local = t.local; marks = x; fires = f; due = nat_lt 0 n && is_frame_end i.frame t.cpu.run }) c
    ∙ (ap (λ (x : ℕ). record i { cpu = t.cpu; local = t.local; marks = t.marks; fires = x; due = nat_lt 0 n && is_frame_end i.frame t.cpu.run }) d
    ∙ (sym (ran_is i n (subst IsRunning (sym same) run) room all seen n (omega arith)) ∙ ap (module_ticks r2000_triplex seen true true n) same)))))

pub quiet_on : (m i : ModuleState) (n : ℕ) → i ≡ m → IsRunning m → (0 < n → i.fires + n ≤ 254) → AreTurns i.frame n (turning_of i) → (seen j : ℕ) → j < n → posts_at r2000_triplex seen true true j m ≡ false
quiet_on m i n same run room all seen j low = ap (λ (x : ModuleState). posts_at r2000_triplex seen true true j x) (sym same) ∙ ran_quiet i n (subst IsRunning (sym same) run) room all seen j low

-- none, and one
pub asks_first : (n : ℕ) (s : Turning) (p : Processor) (l : List ℕ) (ms : List Bool) (b : Bool) → IsTurned n s p l ms → n ≡ 0 → b ≡ false → b ≡ is_local (ask_of p l) → is_local (ask_of s.cpu s.local) ≡ false
unfolding turns
asks_first n s p l ms b h none e is = ap (λ (t : Turning). is_local (ask_of t.cpu t.local)) (sym (turning_is n s p l ms h ∙ ap (λ (i : ℕ). turns i s) none)) ∙ (sym is ∙ e)

pub record IsOnce (b : Bool) (s : Turning) (p : Processor) (l : List ℕ) (ms : List Bool) : Type 0 where
  pub asks : b ≡ is_local (ask_of s.cpu s.local)
  pub cpu : p ≡ (if b then after_turn s.cpu s.local else s.cpu)
  pub words : l ≡ (if b then local_after_turn s.cpu s.local else s.local)
  pub marks : ms ≡ (if b then marks_after_turn s.cpu s.local s.marks else s.marks)

pub once : (frame r : ℕ) (s : Turning) (p : Processor) (l : List ℕ) (ms : List Bool) → r ≤ 1 → p ≡ (turns r s).cpu → l ≡ (turns r s).local → ms ≡ (turns r s).marks → AreTurns frame r s
    → (r ≡ 0 → is_local (ask_of s.cpu s.local) ≡ false) → IsOnce (r == 1) s p l ms
unfolding turns
once frame zero s p l ms h a b c all first = record { asks = sym (first refl); cpu = a; words = b; marks = c }
once frame (suc zero) s p l ms h a b c all first = record { asks = sym (all.stays 0 (omega arith)); cpu = a; words = b; marks = c }
once frame (suc (suc n)) s p l ms h a b c all first = absurd (omega arith)

-- where a run of cycles ends whose next one asks
pub asks_next : (p p' : Processor) (l l' : List ℕ) (b : Bool) → b ≡ false → p' ≡ p → l' ≡ l → b ≡ is_local (ask_of p l) → is_local (ask_of p' l') ≡ false
asks_next p p' l l' b e a c is = ap (λ (q : Processor). is_local (ask_of q l')) a ∙ (ap (λ (x : List ℕ). is_local (ask_of p x)) c ∙ (sym is ∙ e))

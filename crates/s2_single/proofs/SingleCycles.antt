-- From a cycle of a machine's parts to a cycle of the machine.
use Rattle.std.proofs.Common.{◌≡◌, ◌≢◌, ◌+◌, ℕ, suc, true, false, [], length, append-nil, List, ◌++◌, None, refl, sym, ap, ◌∙◌, subst, Bool, if◌then◌else◌, ◌-◌, ◌≤◌, ◌<◌, ◌%◌, ◌^◌, arith}
use Rattle.std.specs.declared.option.Option.{Option}
use Rattle.s2_device.specs.DeviceState.{Device}
use Rattle.s2_device.specs.declared.effect.Effect.{Effect}
use Rattle.s2_cpu.specs.Processor.{Processor}
use Rattle.s2_machine.specs.Machine.{Machine}
use Rattle.s2_machine.specs.LocalWork.{ask_of, after_turn, local_after_turn}
use Rattle.s2_machine.specs.Cores.{Outcome, core_cycle_by}
use Rattle.s2_machine.specs.R2000.{r2000}
use Rattle.s2_machine.specs.Cycle.{cycle}
use Rattle.s2_machine.specs.MachineRun.{RunState, core_cycles, after_cycle, after_cycle_unless, bytes_of}
use Rattle.s2_core.proofs.CoreFacts.{runs_add, r2000_core}
use Rattle.s2_base.specs.declared.map.TheConstants.{LOCAL_WORDS, GLOBAL_WORDS}
use Rattle.s2_machine.specs.declared.ask.Ask.{Ask}
use Rattle.s2_machine.specs.declared.ask.Ask.TheVariants.{Local, Outside}
use Rattle.s2_core.specs.Working.{is_local}
use Rattle.s2_single.specs.SingleMachine.{burst_cycles, cycle_effect, effect_by, in_run, machine_of}

-- a turn that did not run leaves a cycle that asks for an access, and is the same cycle
asks : (ask : Ask) → false ≡ is_local ask → ask ≢ Local
asks Local e = grind arith
asks (Outside request) e = grind arith

pub still_asks : (cpu cpu' : Processor) (local local' : List ℕ) → false ≡ is_local (ask_of cpu local) → cpu' ≡ cpu → local' ≡ local → ask_of cpu' local' ≢ Local
still_asks cpu cpu' local local' e a b same =
    asks (ask_of cpu local) e (sym (ap (λ (p : Processor). ask_of p local') a ∙ ap (λ (l : List ℕ). ask_of cpu l) b) ∙ same)

pub same_cycle : (cpu cpu' : Processor) (local local' global : List ℕ) (device : Device) → cpu' ≡ cpu → local' ≡ local
    → cycle (machine_of cpu local global device None) ≡ cycle (machine_of cpu' local' global device None)
same_cycle cpu cpu' local local' global device a b =
    sym (ap (λ (p : Processor). cycle (machine_of p local' global device None)) a ∙ ap (λ (l : List ℕ). cycle (machine_of cpu l global device None)) b)

-- a turn that ran is the whole cycle
nothing_asked : (ask : Ask) → true ≡ is_local ask → ask ≡ Local
nothing_asked Local e = refl
nothing_asked (Outside request) e = grind arith

pub local_cycle : (cpu cpu' : Processor) (local local' global : List ℕ) (device : Device) (halt : Option ℕ)
    → true ≡ is_local (ask_of cpu local) → cpu' ≡ after_turn cpu local → local' ≡ local_after_turn cpu local → halt ≡ None
    → cycle (machine_of cpu local global device None) ≡ record { next = machine_of cpu' local' global device halt; out = None }
local_cycle cpu cpu' local local' global device halt e a b none =
    ap (λ (ask : Ask). core_cycle_by r2000 (machine_of cpu local global device None) ask) (nothing_asked (ask_of cpu local) e)
    ∙ sym (ap (λ (p : Processor). record { next = machine_of p local' global device halt; out = None }) a
    ∙ (ap (λ (l : List ℕ). record { next = machine_of (after_turn cpu local) l global device halt; out = None }) b
    ∙ ap (λ (h : Option ℕ). record { next = machine_of (after_turn cpu local) (local_after_turn cpu local) global device h; out = None }) none))

-- the cycle of a machine that has not halted is that of its parts
pub cycle_of_parts : (m : Machine) (cpu : Processor) (local global : List ℕ) (device : Device) (halt : Option ℕ) (o : Outcome)
    → machine_of cpu local global device halt ≡ m → m.halt ≡ None → cycle (machine_of cpu local global device None) ≡ o → cycle m ≡ o
cycle_of_parts m cpu local global device halt o seen running same =
    ap (λ (q : Machine). cycle q) (sym seen)
    ∙ (ap (λ (h : Option ℕ). cycle (machine_of cpu local global device h)) (ap (λ (q : Machine). q.halt) seen ∙ running) ∙ same)

-- what such a cycle gives
pub effect_of_cycle : (m next : Machine) (e : Effect) → e.word ≡ 0 → cycle m ≡ record { next = record next { halt = e.halt }; out = e.out } → e ≡ cycle_effect m
effect_of_cycle m next e none same =
    ap (λ (w : ℕ). record { word = w; out = e.out; halt = e.halt }) none ∙ ap effect_by (sym same)

-- and what it does in a run
pub run_of_cycle : (m next : Machine) (out : Option ℕ) (bytes : List ℕ) → m.halt ≡ None → cycle m ≡ record { next = next; out = out }
    → after_cycle (in_run m bytes) ≡ in_run next (bytes ++ bytes_of out)
run_of_cycle m next out bytes running same =
    ap (λ (h : Option ℕ). after_cycle_unless (in_run m bytes) h) running
    ∙ ap (λ (o : Outcome). in_run o.next (bytes ++ bytes_of o.out)) same

-- a cycle that asks nothing is one of a burst, and one that asks for an access is its last
burst_goes_on : (k : ℕ) (m next : Machine) (out : Option ℕ) → true ≡ is_local (ask_of m.cpu m.local) → cycle m ≡ record { next = next; out = out }
    → burst_cycles (suc k) m ≡ 1 + burst_cycles k next
burst_goes_on k m next out e same =
    ap (λ (b : Bool). if b then 1 + burst_cycles k (cycle m).next else 1) (sym e) ∙ ap (λ (o : Outcome). 1 + burst_cycles k o.next) same

burst_ends : (k : ℕ) (m : Machine) → false ≡ is_local (ask_of m.cpu m.local) → burst_cycles (suc k) m ≡ 1
burst_ends k m e = ap (λ (b : Bool). if b then 1 + burst_cycles k (cycle m).next else 1) (sym e)

-- cycles of a machine's parts that were run from others, without a byte and a halt, and each one of a burst
pub record HasRun (n : ℕ) (cpu cpu' : Processor) (local local' global global' : List ℕ) (device device' : Device) (halt : Option ℕ) : Type 0 where
  pub run : (bytes : List ℕ) → core_cycles r2000 n (in_run (machine_of cpu local global device None) bytes) ≡ in_run (machine_of cpu' local' global' device' None) bytes
  pub counted : (k : ℕ) → burst_cycles (n + k) (machine_of cpu local global device None) ≡ n + burst_cycles k (machine_of cpu' local' global' device' None)
  pub running : halt ≡ None
  pub local_size : length local' ≡ LOCAL_WORDS
  pub global_size : length global' ≡ GLOBAL_WORDS

-- none
pub has_not_run : (n : ℕ) (cpu : Processor) (local global : List ℕ) (device : Device) (halt : Option ℕ) → n ≡ 0 → halt ≡ None → length local ≡ LOCAL_WORDS → length global ≡ GLOBAL_WORDS
    → HasRun n cpu cpu local local global global device device halt
has_not_run n cpu local global device halt zero none size global_size = record {
  run = λ bytes. ap (λ (k : ℕ). core_cycles r2000 k (in_run (machine_of cpu local global device None) bytes)) zero;
  counted = λ k. subst (λ j. burst_cycles (j + k) (machine_of cpu local global device None) ≡ j + burst_cycles k (machine_of cpu local global device None)) (sym zero) (grind arith);
  running = none;
  local_size = size;
  global_size = global_size;
}

-- one more
pub run_more : {n : ℕ} {cpu cpu' : Processor} {local local' global global' : List ℕ} {device device' : Device} {halt : Option ℕ} (m : ℕ) (next : Machine) (out : Option ℕ)
    → HasRun n cpu cpu' local local' global global' device device' halt → m ≡ n + 1 → cycle (machine_of cpu' local' global' device' None) ≡ record { next = next; out = out }
    → (bytes : List ℕ) → core_cycles r2000 m (in_run (machine_of cpu local global device None) bytes) ≡ in_run next (bytes ++ bytes_of out)
run_more {n} {cpu} {cpu'} {local} {local'} {global} {global'} {device} {device'} {halt} m next out h more same bytes =
    ap (λ (k : ℕ). core_cycles r2000 k (in_run (machine_of cpu local global device None) bytes)) more
    ∙ (sym (runs_add r2000 n 1 (in_run (machine_of cpu local global device None) bytes))
    ∙ (ap (λ (ran : RunState). core_cycles r2000 1 ran) (h.run bytes) ∙ run_of_cycle (machine_of cpu' local' global' device' None) next out bytes refl same))

-- and one that asks nothing
pub turn_more : {n : ℕ} {cpu cpu' : Processor} {local local' global global' : List ℕ} {device device' : Device} {halt : Option ℕ} (m : ℕ) (cpu'' : Processor) (local'' : List ℕ)
    → HasRun n cpu cpu' local local' global global' device device' halt → m ≡ n + 1
    → true ≡ is_local (ask_of cpu' local') → cpu'' ≡ after_turn cpu' local' → local'' ≡ local_after_turn cpu' local' → length local'' ≡ LOCAL_WORDS
    → HasRun m cpu cpu'' local local'' global global' device device' halt
turn_more {n} {cpu} {cpu'} {local} {local'} {global} {global'} {device} {device'} {halt} m cpu'' local'' h more e a b size = record {
  run = λ bytes. run_more m (machine_of cpu'' local'' global' device' None) None h more (local_cycle cpu' cpu'' local' local'' global' device' None e a b refl) bytes
      ∙ ap (in_run (machine_of cpu'' local'' global' device' None)) (append-nil bytes);
  counted = λ k.
      let m0 = machine_of cpu local global device None in
      let next = machine_of cpu'' local'' global' device' None in
      let here : m + k ≡ n + suc k = omega (arith, more) in
      let there : n + (1 + burst_cycles k next) ≡ m + burst_cycles k next = omega (arith, more) in
      ap (λ j. burst_cycles j m0) here
      ∙ (h.counted (suc k)
      ∙ (ap (λ j. n + j) (burst_goes_on k (machine_of cpu' local' global' device' None) next None e (local_cycle cpu' cpu'' local' local'' global' device' None e a b refl))
      ∙ there));
  running = h.running;
  local_size = size;
  global_size = h.global_size;
}

-- the run count counts each
pub turn_counts : (cpu cpu' : Processor) (local : List ℕ) (start n m : ℕ) → true ≡ is_local (ask_of cpu local) → cpu' ≡ after_turn cpu local
    → cpu.run ≡ (start + n) % 2 ^ 64 → m ≡ n + 1 → cpu'.run ≡ (start + m) % 2 ^ 64
turn_counts cpu cpu' local start n m e a counted more =
    let one : cpu'.run ≡ (cpu.run + 1) % 2 ^ 64 = ap (λ (p : Processor). p.run) a ∙ r2000_core.run_after_turn cpu local (nothing_asked (ask_of cpu local) e) in
    omega (arith, one, counted, more)

ran_since : (run start n : ℕ) → run ≡ (start + n) % 2 ^ 64 → start < 2 ^ 64 → n < 2 ^ 64 → (run + (2 ^ 64 - start)) % 2 ^ 64 ≡ n
ran_since run start n counted small few = omega (arith, counted, small, few)

-- so it tells how many a burst has that ends with the next
pub ran_with_next : (run start left limit : ℕ) → run ≡ (start + (limit - left)) % 2 ^ 64 → start < 2 ^ 64 → limit < 2 ^ 64 → 0 < left → left ≤ limit
    → limit - (limit - (run + (2 ^ 64 - start)) % 2 ^ 64 - 1) ≡ (limit - left) + 1
ran_with_next run start left limit counted small few some most = omega (arith, ran_since run start (limit - left) counted small (omega arith), some, most)

-- as many as were asked for
pub run_full : {n : ℕ} {cpu cpu' : Processor} {local local' global global' : List ℕ} {device device' : Device} {halt : Option ℕ} (limit : ℕ)
    → HasRun n cpu cpu' local local' global global' device device' halt → limit ≡ n
    → (bytes : List ℕ) → core_cycles r2000 limit (in_run (machine_of cpu local global device None) bytes) ≡ in_run (machine_of cpu' local' global' device' halt) (bytes ++ [])
run_full {n} {cpu} {cpu'} {local} {local'} {global} {global'} {device} {device'} {halt} limit h all bytes =
    ap (λ (k : ℕ). core_cycles r2000 k (in_run (machine_of cpu local global device None) bytes)) all
    ∙ (h.run bytes
    ∙ (ap (λ (o : Option ℕ). in_run (machine_of cpu' local' global' device' o) bytes) (sym h.running)
    ∙ ap (in_run (machine_of cpu' local' global' device' halt)) (sym (append-nil bytes))))

-- the burst was so long
pub counted_full : (limit n : ℕ) {cpu cpu' : Processor} {local local' global global' : List ℕ} {device device' : Device} {halt : Option ℕ}
    → HasRun n cpu cpu' local local' global global' device device' halt → n ≡ limit
    → n ≡ burst_cycles limit (machine_of cpu local global device None)
counted_full limit n {cpu} {cpu'} {local} {local'} {global} {global'} {device} {device'} {halt} h all =
    let here : n + 0 ≡ limit = omega (arith, all) in
    let nothing : n ≡ n + burst_cycles 0 (machine_of cpu' local' global' device' None) = grind arith in
    nothing ∙ (sym (h.counted 0) ∙ ap (λ j. burst_cycles j (machine_of cpu local global device None)) here)

pub counted_outside : {n : ℕ} {cpu cpu' : Processor} {local local' global global' : List ℕ} {device device' : Device} {halt : Option ℕ} (limit cycles : ℕ)
    → HasRun n cpu cpu' local local' global global' device device' halt → cycles ≡ n + 1 → cycles ≤ limit → false ≡ is_local (ask_of cpu' local')
    → cycles ≡ burst_cycles limit (machine_of cpu local global device None)
counted_outside {n} {cpu} {cpu'} {local} {local'} {global} {global'} {device} {device'} {halt} limit cycles h one within e =
    let left = limit - cycles in
    let here : n + suc left ≡ limit = omega (arith, one, within) in
    one
    ∙ (sym (ap (λ j. n + j) (burst_ends left (machine_of cpu' local' global' device' None) e))
    ∙ (sym (h.counted (suc left)) ∙ ap (λ j. burst_cycles j (machine_of cpu local global device None)) here))

-- a machine whose parts these are
pub run_of_parts : (m next : Machine) (cpu : Processor) (local global : List ℕ) (device : Device) (halt out : Option ℕ) (n : ℕ)
    → machine_of cpu local global device halt ≡ m → m.halt ≡ None
    → ((bytes : List ℕ) → core_cycles r2000 n (in_run (machine_of cpu local global device None) bytes) ≡ in_run next (bytes ++ bytes_of out))
    → (bytes : List ℕ) → core_cycles r2000 n (in_run m bytes) ≡ in_run next (bytes ++ bytes_of out)
run_of_parts m next cpu local global device halt out n seen running run bytes =
    ap (λ (q : Machine). core_cycles r2000 n (in_run q bytes)) (sym seen)
    ∙ (ap (λ (h : Option ℕ). core_cycles r2000 n (in_run (machine_of cpu local global device h) bytes)) (ap (λ (q : Machine). q.halt) seen ∙ running) ∙ run bytes)

pub counted_of_parts : (m : Machine) (cpu : Processor) (local global : List ℕ) (device : Device) (halt : Option ℕ) (n limit : ℕ)
    → machine_of cpu local global device halt ≡ m → m.halt ≡ None
    → n ≡ burst_cycles limit (machine_of cpu local global device None) → n ≡ burst_cycles limit m
counted_of_parts m cpu local global device halt n limit seen running counted =
    counted
    ∙ (sym (ap (λ (h : Option ℕ). burst_cycles limit (machine_of cpu local global device h)) (ap (λ (q : Machine). q.halt) seen ∙ running))
    ∙ ap (λ (q : Machine). burst_cycles limit q) seen)

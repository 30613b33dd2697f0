-- A loop of bursts of cycles, and how it ends.
use Rattle.std.proofs.Common.{◌≡◌, ℕ, ◌+◌, ◌-◌, ◌<◌, ◌≤◌, true, false, List, [], ◌++◌, take, length, append_assoc, length-append, refl, sym, ap, arith, ◌∙◌}
use Rattle.std.specs.Prelude.{Some, None, is_some}
use Rattle.std.specs.declared.option.Option.{Option}
use Rattle.std.proofs.Math.Seq.{take-append_seam}
use Rattle.s2_machine.specs.Machine.{Machine}
use Rattle.s2_machine.specs.R2000.{r2000}
use Rattle.s2_machine.specs.MachineRun.{RunState, bytes_of, core_cycles}
use Rattle.s2_core.proofs.CoreFacts.{runs_add}
use Rattle.s2_single.specs.SingleMachine.{in_run}
use Rattle.s2_io.specs.Sinks.{appended}
use Rattle.s2_run.specs.Execution.{run_within}
use Rattle.s2_run.proofs.Pieces.{appended_twice, appended_none}
use Rattle.s2_single.proofs.ProgramCycles.{halted_cycles, cycles_from}

-- cycles that go on: where they have come to, and what the console has taken
pub record Running (start : Machine) (limit i written : ℕ) (machine : Machine) (before now : Option (List ℕ)) : Type 0 where
  pub bytes : List ℕ
  pub running : machine.halt ≡ None
  pub rest : core_cycles r2000 (limit - i) (in_run machine bytes) ≡ run_within start limit
  pub written_is : written ≡ length bytes
  pub taken : now ≡ appended before bytes

-- cycles that are over
pub record Finished (start : Machine) (limit written : ℕ) (machine : Machine) (before now : Option (List ℕ)) : Type 0 where
  pub machine_is : machine ≡ (run_within start limit).machine
  pub written_is : written ≡ length (run_within start limit).bytes
  pub taken : now ≡ appended before (run_within start limit).bytes

-- cycles whose console was cut
pub record Broken (start : Machine) (limit written : ℕ) (before now : Option (List ℕ)) : Type 0 where
  pub short : written < length (run_within start limit).bytes
  pub taken : now ≡ appended before (take written (run_within start limit).bytes)

pub none_from : (o : Option ℕ) → is_some o ≡ false → o ≡ None
none_from (Some v) h = cc
none_from None h = refl

-- no cycle was run so far
pub running_start : (start : Machine) (limit : ℕ) (before : Option (List ℕ)) → start.halt ≡ None → Running start limit 0 0 start before before
running_start start limit before h = record {
  bytes = [];
  running = h;
  rest = let all : limit - 0 ≡ limit = omega arith in ap (λ (k : ℕ). core_cycles r2000 k (in_run start [])) all;
  written_is = refl;
  taken = sym (appended_none before);
}

-- so many cycles more
rest_more : (start m m' : Machine) (limit i n j : ℕ) (bytes bytes' : List ℕ) → j ≡ i + n → j ≤ limit → core_cycles r2000 (limit - i) (in_run m bytes) ≡ run_within start limit → core_cycles r2000 n (in_run m bytes) ≡ in_run m' bytes' → core_cycles r2000 (limit - j) (in_run m' bytes') ≡ run_within start limit
rest_more start m m' limit i n j bytes bytes' here most rest step =
    let all : n + (limit - j) ≡ limit - i = omega (arith, here, most) in
    ap (core_cycles r2000 (limit - j)) (sym step) ∙ (runs_add r2000 n (limit - j) (in_run m bytes) ∙ (ap (λ (k : ℕ). core_cycles r2000 k (in_run m bytes)) all ∙ rest))

taken_more : (bytes out : List ℕ) (before now now' : Option (List ℕ)) → now ≡ appended before bytes → now' ≡ appended now out → now' ≡ appended before (bytes ++ out)
taken_more bytes out before now now' taken step = step ∙ (ap (λ (o : Option (List ℕ)). appended o out) taken ∙ appended_twice before bytes out)

written_more : (bytes out : List ℕ) (written written' : ℕ) → written ≡ length bytes → written' ≡ written + length out → written' ≡ length (bytes ++ out)
written_more bytes out written written' is step = omega (arith, length-append bytes out)

-- and the machine has not halted
pub running_on : {start : Machine} {limit i written : ℕ} {m : Machine} {before now : Option (List ℕ)} (m' : Machine) (out : Option ℕ) (written' : ℕ) (now' : Option (List ℕ)) → (n j : ℕ) → (r : Running start limit i written m before now) → j ≡ i + n → j ≤ limit → core_cycles r2000 n (in_run m r.bytes) ≡ in_run m' (r.bytes ++ bytes_of out) → m'.halt ≡ None → now' ≡ appended now (bytes_of out) → written' ≡ written + length (bytes_of out) → Running start limit j written' m' before now'
running_on {start} {limit} {i} {written} {m} {before} {now} m' out written' now' n j r here most step halt took count = record {
  bytes = r.bytes ++ bytes_of out;
  running = halt;
  rest = rest_more start m m' limit i n j r.bytes (r.bytes ++ bytes_of out) here most r.rest step;
  written_is = written_more r.bytes (bytes_of out) written written' r.written_is count;
  taken = taken_more r.bytes (bytes_of out) before now now' r.taken took;
}

ended_as : (start : Machine) (limit written : ℕ) (bytes : List ℕ) (m : Machine) (before now : Option (List ℕ)) → in_run m bytes ≡ run_within start limit → written ≡ length bytes → now ≡ appended before bytes → Finished start limit written m before now
ended_as start limit written bytes m before now here written_is taken = record {
  machine_is = ap (λ (r : RunState). r.machine) here;
  written_is = written_is ∙ ap (λ (r : RunState). length r.bytes) here;
  taken = taken ∙ ap (λ (r : RunState). appended before r.bytes) here;
}

halt_stays : (start m : Machine) (limit n : ℕ) (bytes : List ℕ) (halt : Option ℕ) → m.halt ≡ halt → is_some halt ≡ true → core_cycles r2000 n (in_run m bytes) ≡ run_within start limit → in_run m bytes ≡ run_within start limit
halt_stays start m limit n bytes (Some value) h some rest = sym (halted_cycles n (in_run m bytes) value h) ∙ rest
halt_stays start m limit n bytes None h some rest = cc

-- and the machine has halted
pub finish_halted : {start : Machine} {limit i written : ℕ} {m : Machine} {before now : Option (List ℕ)} (m' : Machine) (out : Option ℕ) (written' : ℕ) (now' : Option (List ℕ)) → (n j : ℕ) → (r : Running start limit i written m before now) → j ≡ i + n → j ≤ limit → core_cycles r2000 n (in_run m r.bytes) ≡ in_run m' (r.bytes ++ bytes_of out) → is_some m'.halt ≡ true → now' ≡ appended now (bytes_of out) → written' ≡ written + length (bytes_of out) → Finished start limit written' m' before now'
finish_halted {start} {limit} {i} {written} {m} {before} {now} m' out written' now' n j r here most step halt took count =
    ended_as start limit written' (r.bytes ++ bytes_of out) m' before now'
    (halt_stays start m' limit (limit - j) (r.bytes ++ bytes_of out) m'.halt refl halt (rest_more start m m' limit i n j r.bytes (r.bytes ++ bytes_of out) here most r.rest step))
    (written_more r.bytes (bytes_of out) written written' r.written_is count) (taken_more r.bytes (bytes_of out) before now now' r.taken took)

-- a burst was run, and its byte did not go
pub broken_off : {start : Machine} {limit i written : ℕ} {m : Machine} {before now : Option (List ℕ)} (m' : Machine) (out : Option ℕ) (cut : ℕ) (now' : Option (List ℕ)) → (n j : ℕ) → (r : Running start limit i written m before now) → j ≡ i + n → j ≤ limit → core_cycles r2000 n (in_run m r.bytes) ≡ in_run m' (r.bytes ++ bytes_of out) → cut ≡ 0 → 0 < length (bytes_of out) → now' ≡ appended now (take cut (bytes_of out)) → Broken start limit written before now'
broken_off {start} {limit} {i} {written} {m} {before} {now} m' out cut now' n j r here most step zero_cut some took =
    let more = rest_more start m m' limit i n j r.bytes (r.bytes ++ bytes_of out) here most r.rest step in
    let tail : List ℕ = (core_cycles r2000 (limit - j) (in_run m' [])).bytes in
    let all : (r.bytes ++ bytes_of out) ++ tail ≡ (run_within start limit).bytes = ap (λ (q : RunState). q.bytes) (sym (cycles_from (limit - j) m' (r.bytes ++ bytes_of out)) ∙ more) in
    let whole : r.bytes ++ (bytes_of out ++ tail) ≡ (run_within start limit).bytes = sym (append_assoc r.bytes (bytes_of out) tail) ∙ all in
    let size : length (run_within start limit).bytes ≡ length r.bytes + (length (bytes_of out) + length tail) =
    sym (ap length whole) ∙ (length-append r.bytes (bytes_of out ++ tail) ∙ ap (λ (k : ℕ). length r.bytes + k) (length-append (bytes_of out) tail)) in
    let front : take written (run_within start limit).bytes ≡ r.bytes =
    ap (λ (k : ℕ). take k (run_within start limit).bytes) r.written_is ∙ (ap (take (length r.bytes)) (sym whole) ∙ take-append_seam r.bytes (bytes_of out ++ tail)) in
    let nothing : now' ≡ now = took ∙ (ap (λ (n : ℕ). appended now (take n (bytes_of out))) zero_cut ∙ appended_none now) in
    record {
      short = omega (arith, r.written_is);
      taken = nothing ∙ (r.taken ∙ ap (appended before) (sym front));
    }

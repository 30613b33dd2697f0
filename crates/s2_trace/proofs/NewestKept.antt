-- The newest machine that is kept up to a run count.
use Rattle.std.proofs.Common.{◌≡◌, ◌≢◌, ℕ, zero, suc, ◌+◌, ◌<◌, ◌≤◌, List, [], ◌∷◌, length, refl, sym, ap, arith, ◌∙◌, subst, ⊎_elim}
use Rattle.std.specs.Prelude.{Some, None, IsSome}
use Rattle.std.specs.declared.option.Option.{Option}
use Rattle.std.proofs.lemmas.Bool.{cases_lt}
use Rattle.s2_machine.specs.Machine.{Machine}
use Rattle.s2_trace.specs.Travel.{slot, kept_run, IsNewestTo, IsLatestSlot}

-- of the first slots, this is the best one
pub record IsBest (n i : ℕ) (slots : List (Option Machine)) (best : Option ℕ) (best_run : ℕ) : Type 0 where
  pub found : (b : ℕ) → best ≡ Some b → (b < length slots) × (kept_run (slot slots b) ≡ Some best_run) × (best_run ≤ n)
  pub none : best ≡ None → best_run ≡ 0
  pub most : (k : ℕ) (m : Machine) → k < i → slot slots k ≡ Some m → m.cpu.run ≤ n → (best ≢ None) × (m.cpu.run ≤ best_run)

run_of_kept : (kept : Option Machine) (m : Machine) (run : ℕ) → kept ≡ Some m → kept_run kept ≡ Some run → m.cpu.run ≡ run
run_of_kept kept m run at is = let f : Some m.cpu.run ≡ Some run = sym (ap kept_run at) ∙ is in cc

pub best_of_none : (n : ℕ) (slots : List (Option Machine)) → IsBest n 0 slots None 0
best_of_none n slots = record {
  found = λ b e. absurd cc;
  none = λ e. refl;
  most = λ k m less at low. absurd (omega arith);
}

-- a better one
pub better : {n i : ℕ} {slots : List (Option Machine)} {best : Option ℕ} {best_run : ℕ} (run : ℕ) → IsBest n i slots best best_run → kept_run (slot slots i) ≡ Some run → run ≤ n → best_run ≤ run → i < length slots
    → IsBest n (i + 1) slots (Some i) run
better {n} {i} {slots} {best} {best_run} run h is low least within = record {
  found = λ b e. (let f : i ≡ b = cc in (omega arith, subst (λ (x : ℕ). kept_run (slot slots x) ≡ Some run) f is, low));
  none = λ e. absurd cc;
  most = λ k m less at most. (
    λ e. absurd cc,
    ⊎_elim
        (λ (before : k < i). let r = (h.most k m before at most).1 in omega arith)
        (λ (last : i ≤ k). let here : k ≡ i = omega arith in
        let same = run_of_kept (slot slots i) m run (ap (slot slots) (sym here) ∙ at) is in omega arith)
        (cases_lt k i),
  );
}

-- one that is no better, or none
pub no_better : {n i : ℕ} {slots : List (Option Machine)} {best : Option ℕ} {best_run : ℕ} → IsBest n i slots best best_run → ((m : Machine) → slot slots i ≡ Some m → m.cpu.run ≤ n → m.cpu.run < best_run)
    → IsBest n (i + 1) slots best best_run
no_better {n} {i} {slots} {best} {best_run} h none = record {
  found = h.found;
  none = h.none;
  most = λ k m less at most. ⊎_elim
      (λ (before : k < i). h.most k m before at most)
      (λ (last : i ≤ k). let here : k ≡ i = omega arith in
      let short = none m (ap (slot slots) (sym here) ∙ at) most in (
        λ e. (let zero = h.none e in absurd (omega arith)),
        omega arith,
      ))
      (cases_lt k i);
}

pub none_kept_here : (kept : Option Machine) (n best_run : ℕ) → None ≡ kept_run kept → (m : Machine) → kept ≡ Some m → m.cpu.run ≤ n → m.cpu.run < best_run
none_kept_here kept n best_run is m at low = absurd (let f : None ≡ Some m.cpu.run = is ∙ ap kept_run at in cc)

pub kept_too_late : (kept : Option Machine) (n run best_run : ℕ) → Some run ≡ kept_run kept → n < run → (m : Machine) → kept ≡ Some m → m.cpu.run ≤ n → m.cpu.run < best_run
kept_too_late kept n run best_run is late m at low = let same = run_of_kept kept m run at (sym is) in absurd (omega arith)

pub kept_too_early : (kept : Option Machine) (n run best_run : ℕ) → Some run ≡ kept_run kept → run < best_run → (m : Machine) → kept ≡ Some m → m.cpu.run ≤ n → m.cpu.run < best_run
kept_too_early kept n run best_run is early m at low = let same = run_of_kept kept m run at (sym is) in omega arith

-- all slots were looked at
slot_of_kept : (n : ℕ) (slots : List (Option Machine)) (kept : Option Machine) (run : ℕ) → kept_run kept ≡ Some run → run ≤ n
    → ((k : ℕ) (m : Machine) → slot slots k ≡ Some m → m.cpu.run ≤ n → m.cpu.run ≤ run) → IsSome kept × IsNewestTo n slots kept
slot_of_kept n slots None run is low most = absurd cc
slot_of_kept n slots (Some m) run is low most =
    let same : m.cpu.run ≡ run = cc in
    (refl, (omega arith, λ i other at below. (let less = most i other at below in omega arith)))

found_by : (n i : ℕ) (slots : List (Option Machine)) (best : Option ℕ) (best_run : ℕ) → IsBest n i slots best best_run → ((k : ℕ) (m : Machine) → slot slots k ≡ Some m → k < i) → IsLatestSlot n slots best
found_by n i slots None best_run h all = λ k m at. ⊎_elim
    (λ (later : n < m.cpu.run). later)
    (λ (low : m.cpu.run ≤ n). absurd ((h.most k m (all k m at) at low).0 refl))
    (cases_lt n m.cpu.run)
found_by n i slots (Some b) best_run h all =
    let f = h.found b refl in
    let kept = slot_of_kept n slots (slot slots b) best_run f.1 f.2 (λ k m at low. (h.most k m (all k m at) at low).1) in
    (f.0, kept.0, kept.1)

slot_within : (slots : List (Option Machine)) (k : ℕ) (m : Machine) → slot slots k ≡ Some m → k < length slots
slot_within [] k m at = absurd cc
slot_within (x ∷ xs) zero m at = omega arith
slot_within (x ∷ xs) (suc k) m at = let r = slot_within xs k m at in omega arith

pub newest_of_all : {n i : ℕ} {slots : List (Option Machine)} {best : Option ℕ} {best_run : ℕ} → IsBest n i slots best best_run → i ≡ length slots → IsLatestSlot n slots best
newest_of_all {n} {i} {slots} {best} {best_run} h all = found_by n i slots best best_run h (λ k m at. (let w = slot_within slots k m at in omega arith))

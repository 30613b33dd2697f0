-- The saved words give the whole processor.
use Rattle.std.proofs.Common.{◌≡◌, ◌<◌, List, [], ◌∷◌, ap, arith}
use Rattle.std.specs.Prelude.{Bool, true, false, if◌then◌else◌}
use Rattle.s2_cpu.specs.Processor.{Processor}
use Rattle.s2_voter.specs.VoterState.{VoterState, is_member}
use Rattle.s2_saved.specs.SavedLaws.{IsProcessorState}
use Rattle.s2_saved.proofs.Restoration.{restores}
use Rattle.s2_triplex.specs.ModuleState.{ModuleState}
use Rattle.s2_triplex.specs.ModuleFaults.{module_reset, module_restored}
use Rattle.s2_triplex.specs.TriplexState.{module_at}
use Rattle.s2_triplex.specs.CopyHolds.{lowest_member, joined}
use Rattle.s2_triplex_laws.specs.RestoredProcessors.{module_loaded, SavedWordsRestore}

pub lowest_low : (v : VoterState) → lowest_member v < 3
lowest_low v = by_first (is_member v 0) (is_member v 1)
  where
    by_first : (a b : Bool) → (if a then 0 else if b then 1 else 2) < 3
    by_first true b = omega arith
    by_first false true = omega arith
    by_first false false = omega arith

module_loads : (cpu : Processor) (m : ModuleState) → IsProcessorState cpu → IsProcessorState m.cpu → module_loaded cpu m ≡ module_restored cpu m
module_loads cpu m a b = ap (λ (c : Processor). record (module_reset m) { cpu = c }) (restores cpu m.cpu a b)

three_same : (a b c x y z : ModuleState) → a ≡ x → b ≡ y → c ≡ z → (a ∷ b ∷ c ∷ []) ≡ (x ∷ y ∷ z ∷ [])
three_same a b c x y z ea eb ec = cc

pub saved_words_restore : SavedWordsRestore
saved_words_restore d j each =
    let cpu = (module_at d.modules (lowest_member d.voter)).cpu in
    let low = each (lowest_member d.voter) (lowest_low d.voter) in
    ap (λ (ms : List ModuleState). record (joined d j) { modules = ms }) (three_same (module_loaded cpu (module_at d.modules 0)) (module_loaded cpu (module_at d.modules 1)) (module_loaded cpu (module_at d.modules 2)) _ _ _
    (module_loads cpu (module_at d.modules 0) low (each 0 (omega arith))) (module_loads cpu (module_at d.modules 1) low (each 1 (omega arith))) (module_loads cpu (module_at d.modules 2) low (each 2 (omega arith))))

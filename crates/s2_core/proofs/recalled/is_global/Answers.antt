use Rattle.std.proofs.Common.{◌≡◌, ℕ, ◌-◌, ◌*◌, ◌/◌, ◌<◌, ◌≤◌, true, arith}
use Rattle.std.specs.Prelude.{nat_lt}
use Rattle.std.proofs.lemmas.Bool.Decides.{nat_tests}
use Rattle.s2_base.specs.Map.{place_at}
use Rattle.s2_base.specs.declared.map.TheConstants.{GLOBAL_END, GLOBAL_START}
use Rattle.s2_base.specs.declared.places.Place.TheVariants.{Global}
use Rattle.s2_core.proofs.recalled.is_global.Goals as goal

global_place : (pa : ℕ) → GLOBAL_START ≤ pa → pa < GLOBAL_END → place_at (pa / 4 * 4) ≡ Global ((pa / 4 * 4 - GLOBAL_START) / 4)
global_place pa from to =
    let low : GLOBAL_START ≤ pa / 4 * 4 = omega arith in
    let high : pa / 4 * 4 < GLOBAL_END = omega arith in
    grind (arith, nat_tests)

below : (pa : ℕ) → nat_lt pa GLOBAL_END ≡ true → pa < GLOBAL_END
below pa e = grind (arith, nat_tests)

pub returns-then-pa-ge-GLOBAL_START : goal.returns-then-pa-ge-GLOBAL_START
returns-then-pa-ge-GLOBAL_START c = λ e. ((c.args.pa / 4 * 4 - GLOBAL_START) / 4, global_place c.args.pa c.if-pa-ge-GLOBAL_START.true (below c.args.pa e))

-- Whether a delivery is due at a run count.
use Rattle.std.proofs.Common.{◌≡◌, ℕ, ◌<◌, ◌≤◌, true, false, arith}
use Rattle.std.specs.Prelude.{nat_le}
use Rattle.std.proofs.lemmas.Bool.Decides.{nat_tests}
use Rattle.s2_machine.specs.declared.deliveries.Delivery.{Delivery}

pub is_due : (d : Delivery) (run : ℕ) → d.run ≤ run → nat_le d.run run ≡ true
is_due d run h = grind (arith, nat_tests)

pub is_later : (d : Delivery) (run : ℕ) → run < d.run → nat_le d.run run ≡ false
is_later d run h = grind (arith, nat_tests)

pub due_is : (d : Delivery) (run : ℕ) → nat_le d.run run ≡ true → d.run ≤ run
due_is d run h = grind (arith, nat_tests)

pub later_is : (d : Delivery) (run : ℕ) → nat_le d.run run ≡ false → run < d.run
later_is d run h = grind (arith, nat_tests)

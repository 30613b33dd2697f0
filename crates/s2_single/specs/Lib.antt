pub use Rattle.s2_machine.specs.Machine
pub use Rattle.s2_machine.specs.Cycle
pub use Rattle.s2_machine.specs.MachineRun
pub mod SingleMachine

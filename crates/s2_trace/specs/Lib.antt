pub use Rattle.s2_saved.specs.SavedWords
pub use Rattle.s2_machine.specs.Machine
pub use Rattle.s2_machine.specs.MachineRun
pub mod Timeline
pub mod Travel
pub mod TraceState

pub use Rattle.s2_tlb.specs.TranslationEntries
pub use Rattle.s2_cp0.specs.ControlRegisters
pub use Rattle.s2_cp0.specs.ControlRegisterAccess
pub use Rattle.s2_cpu.specs.GeneralRegisters
pub use Rattle.s2_cpu.specs.Processor
pub mod SavedWords
pub mod SavedLaws

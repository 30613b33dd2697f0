pub use Rattle.s2_duplex.specs.DuplexBoards
pub use Rattle.s2_duplex.specs.MendedBoards
pub mod MendingBoards
pub mod MendingFaults
pub mod IdleRuns

pub mod FlippedParity
pub mod Ranges
pub mod PackedUnits
pub mod ValidWords
pub mod FaultedBoards
pub mod DuplexInvariant
pub mod MendedBoards

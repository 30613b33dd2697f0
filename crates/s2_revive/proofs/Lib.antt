pub mod MendedWords
pub mod MendingMemory
pub mod MendedParity
mod IdleTurns

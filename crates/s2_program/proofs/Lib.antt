pub mod FileBytes
pub mod FileHeaders
pub mod FileConditions
pub mod FileWords
pub mod PartWords

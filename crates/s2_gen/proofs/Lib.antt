pub mod UniqueImages
pub mod LaidWords
pub mod SaidLines

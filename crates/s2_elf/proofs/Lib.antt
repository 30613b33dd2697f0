pub mod FirstFalse
pub mod HeaderLoops
pub mod Room
pub mod PlacedWords
pub mod ImageWords
pub mod Parts

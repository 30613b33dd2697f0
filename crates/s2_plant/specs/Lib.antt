pub mod StepParts
pub mod ActRanges
pub mod StepPromises
pub mod TickRests
pub mod TickRuns
pub mod ApartTicks

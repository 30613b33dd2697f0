pub mod BitsShown
pub mod FairWindows
pub mod CoveredTicks

pub mod AgreedCount
pub mod CountBounds

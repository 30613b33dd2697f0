pub mod EntrySets
pub mod LowestMatch
pub mod LookRows
pub mod RememberedPages
pub mod ZeroEntries

pub mod TranslationEntries
pub mod TlbLookup
pub mod EntryIndex
pub mod RememberedPages

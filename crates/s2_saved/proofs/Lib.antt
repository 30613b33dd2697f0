pub mod WordLists
pub mod Restoration
pub mod StateKept
pub mod SingleWords

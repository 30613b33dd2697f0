pub mod Joined
pub mod ScriptTests
pub mod ProperLines
pub mod FirstRows

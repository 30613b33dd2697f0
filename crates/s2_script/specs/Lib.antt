pub mod ScriptLines
pub mod FirstLines

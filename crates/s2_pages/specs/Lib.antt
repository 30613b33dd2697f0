pub use Rattle.s2_store.specs.Marks
pub mod PageMarks

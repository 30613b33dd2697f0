pub use Rattle.s2_store.specs.Marks
pub use Rattle.s2_pages.specs.PageMarks
pub mod CopyOrder
pub mod HoldItems

pub use Rattle.s2_base.specs.Map
pub mod MemoryImage
pub mod Files
pub mod Images
pub mod LoadResult
pub mod Placing

pub use Rattle.s2_elf.specs.MemoryImage
pub mod Programs
pub mod PlainFiles
pub mod ProgramImages

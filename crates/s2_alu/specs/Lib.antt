pub use Rattle.s2_base.specs.Words
pub mod Signed
pub mod Arithmetic

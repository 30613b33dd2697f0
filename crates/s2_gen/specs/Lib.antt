pub mod WorkloadProgram
pub mod ProgramImage
pub mod WorkloadScript

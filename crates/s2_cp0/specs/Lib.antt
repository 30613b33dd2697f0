pub mod ControlRegisters
pub mod ControlRegisterAccess
pub mod ExceptionEntry

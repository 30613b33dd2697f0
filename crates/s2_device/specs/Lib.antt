pub mod DeviceState
pub mod DeviceRegisters

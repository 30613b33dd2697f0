pub mod TickWindow
pub mod ClockWatch
pub mod Frames

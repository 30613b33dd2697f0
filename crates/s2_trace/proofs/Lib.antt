pub mod Reaching
pub mod Stretches
pub mod Multiples
pub mod Travelling
pub mod NewestKept
pub mod PutBack
pub mod Arriving
pub mod Traces

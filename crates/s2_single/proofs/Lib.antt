mod SingleCycles
pub mod ProgramCycles
pub mod DueDeliveries

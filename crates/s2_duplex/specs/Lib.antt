pub mod BoardParity
pub mod ParityUnits
pub mod DuplexBoards
pub mod ToleratedFaults
pub mod ContentsLaws
pub mod MendedBoards

pub mod CaseOrder
pub mod ForeignUnits
pub mod PrivateAccess
pub mod CoreFacts
pub mod CarriedOut
pub mod NearWords
pub mod Operands

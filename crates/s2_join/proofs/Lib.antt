pub mod HoldLemmas
pub mod UncleanPages

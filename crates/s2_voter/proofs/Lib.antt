pub mod EqualRequests
pub mod Agreement
pub mod VoterInvariant

pub mod RequestEquality
pub mod VoterState
pub mod VoterCalls
pub mod Verdicts
pub mod Timers
pub mod VoterLaws
pub mod VoterRests

pub mod MatchedCuts
pub mod MatchedFlows
pub mod MatchedLaws
pub mod ShuffledLaws

pub mod Shuffled
pub mod ShuffledLaws
pub mod Matched
pub mod MatchedFlows

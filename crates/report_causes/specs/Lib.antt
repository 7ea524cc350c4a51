pub mod CauseWords
pub mod CauseLengths

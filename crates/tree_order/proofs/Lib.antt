pub mod Untaken
pub mod Going
pub mod Searching

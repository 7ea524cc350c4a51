pub mod Offer
pub mod Places
pub mod Links
pub mod Accepted
pub mod Answers
pub mod Elimination
pub mod Steps

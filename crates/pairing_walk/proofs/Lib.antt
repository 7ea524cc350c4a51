pub mod Marks
pub mod Visiting
pub mod Roots
pub mod Framing
pub mod Singles
pub mod Tests

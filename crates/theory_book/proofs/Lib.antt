pub mod Counting
pub mod Counts
pub mod Entries
pub mod ListLaws
pub mod Pages
pub mod Totals
pub mod Trees

pub mod Report
pub mod Shown
pub mod Span
pub mod SpanShown
pub mod Length
pub mod Lent

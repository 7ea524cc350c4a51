pub mod LinesRead
pub mod RecordLaws
pub mod Held

pub mod SameRecords
pub mod RecordLaws
pub mod Held
pub mod LinesRead

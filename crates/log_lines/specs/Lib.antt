pub mod LogLines
pub mod BookingLaws
pub mod FaultyLogLines
pub mod FaultyPlanLines
pub mod BareLogLines

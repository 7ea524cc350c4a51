pub mod BareLogLines
pub mod BookingLaws
pub mod FaultyPlanLines
pub mod FaultyLogLines

pub mod ScheduleLemmas
pub mod TurnLemmas
pub mod GrowLemmas
pub mod ScheduleBookLemmas

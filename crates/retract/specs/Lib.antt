pub mod Dirty
pub mod StandingSteps

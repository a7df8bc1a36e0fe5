pub mod Background
pub mod Faults
pub mod Options

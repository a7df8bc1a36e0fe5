pub mod Calls
pub mod Flaws

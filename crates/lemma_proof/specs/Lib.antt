pub mod Making
pub mod Naming

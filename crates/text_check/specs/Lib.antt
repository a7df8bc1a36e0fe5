pub mod Check
pub mod Faults
pub mod Givens
pub mod GivensFaults

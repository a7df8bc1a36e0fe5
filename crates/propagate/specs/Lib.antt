pub mod ClosingBooks
pub mod Schedule
pub mod Turns
pub mod Laws

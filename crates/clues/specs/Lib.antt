pub mod Change
pub mod Clue
pub mod ClueBook
pub mod Laws
pub mod Places
pub mod Solution

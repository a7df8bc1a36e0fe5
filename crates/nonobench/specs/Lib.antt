pub mod Asked
pub mod Noted

pub mod Asked
pub mod Desk
pub mod Held
pub mod Laws

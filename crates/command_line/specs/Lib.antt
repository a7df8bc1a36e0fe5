pub mod Laws
pub mod Program
pub mod Words

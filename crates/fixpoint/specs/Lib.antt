pub mod Agenda
pub mod Orders
pub mod ClosedFacts
pub mod Fillings
pub mod LineNames
pub mod LeastFacts
pub mod LeftToDo
pub mod Laws

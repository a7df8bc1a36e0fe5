pub mod AsBox
pub mod CheckLemmas
pub mod DeskLemmas

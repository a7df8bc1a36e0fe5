pub mod AcceptedLemmas
pub mod BaseLemmas
pub mod FindLemmas
pub mod MadeLemmas
pub mod MakeLemmas

pub mod AnswerLemmas
pub mod MachineLemmas
pub mod RoomLemmas
pub mod RunLemmas
pub mod TruthLemmas

pub mod Assess
pub mod Check
pub mod Open
pub mod Prove
pub mod Run
pub mod Start

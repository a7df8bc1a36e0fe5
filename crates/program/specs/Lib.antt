pub mod Assess
pub mod Endings
pub mod Files
pub mod Run
pub mod Work
pub mod World

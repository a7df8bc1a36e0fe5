pub mod Finding
pub mod Growths
pub mod MadeCert
pub mod Roots
pub use Rattle.cert_check.specs.FirstFault
pub use Rattle.cert_check.specs.Puzzle
pub use Rattle.cert_check.specs.Tree
pub use Rattle.cert_check.specs.Walk

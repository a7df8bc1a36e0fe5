pub mod Through
pub mod Trail

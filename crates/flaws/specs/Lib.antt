pub mod Alike
pub mod Cells

pub mod CellLemmas
pub mod DirtyLemmas
pub mod KeepLemmas
pub mod LeaveLemmas
pub mod MaskLemmas
pub mod SoFarLemmas

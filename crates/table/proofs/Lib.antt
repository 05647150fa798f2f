pub mod Whole
pub mod Says
pub mod LinesRead
pub mod Exact

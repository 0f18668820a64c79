pub mod Numbered
pub mod Stable
pub mod Respelled
pub mod SortedRuns

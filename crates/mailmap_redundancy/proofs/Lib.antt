pub mod Positions
pub mod Giving
pub mod Redundant
pub mod Sublists
pub mod Kept
pub mod Rows
pub mod Numbered

pub mod Compared
pub mod Listing
pub mod Ordered
pub mod Parts
pub mod Skipped

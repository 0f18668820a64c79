pub mod Resolved
pub mod Sources
pub mod Dividers
pub mod ContactLines
pub mod Streams
pub mod Times
pub mod Ordered

pub mod Answers
pub mod Calls
pub mod Pruned
pub mod Listings
pub mod Suggested
pub mod Shelf

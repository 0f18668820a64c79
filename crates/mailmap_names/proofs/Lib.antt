mod Ascii
pub mod Emails
pub mod Marks
pub mod Orders
pub mod Searches
pub mod Spelling
mod WordLemmas

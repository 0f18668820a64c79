pub mod Counting
pub mod Entries
pub mod LineEnds
pub mod Propers
pub mod RawContacts
pub mod Steps
pub mod Sums
pub mod Tallied

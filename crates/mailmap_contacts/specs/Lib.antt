pub mod Answers
pub mod Contacts
pub mod Counts
pub mod Folded
pub mod Proper

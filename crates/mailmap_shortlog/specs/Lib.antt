pub mod Answers
pub mod Shortlog
pub mod Task

pub mod Answering
pub mod Failures
pub mod Files
pub mod Messages
pub mod Outcome
pub mod Printing
pub mod GitLog
pub mod Counted

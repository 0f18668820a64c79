pub mod AnsweredLines
pub mod FirstUnread
pub mod Printed
pub mod Reading
pub mod Parts
pub mod GitLog

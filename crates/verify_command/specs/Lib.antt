pub mod Arguments
pub mod InPlace
pub mod Task

mod SeenAlike
mod Objects
pub mod Suggesting

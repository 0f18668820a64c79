pub mod Keys
pub mod Logins
pub mod Private
pub mod Words

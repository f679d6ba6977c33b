pub mod Walk
pub mod Following
pub mod Along
pub mod Allows

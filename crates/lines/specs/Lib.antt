pub mod Says
pub mod Texts

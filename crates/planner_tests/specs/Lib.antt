pub mod Daytime
pub mod ByDay

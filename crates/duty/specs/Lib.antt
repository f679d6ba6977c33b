pub mod Duties
pub mod Runs
pub mod Logs

pub mod Schedules
pub mod Spelled
pub mod Replies
pub mod Promised
pub mod Printing

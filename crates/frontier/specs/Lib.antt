pub mod Lists
pub mod Cover
pub mod Offer
pub mod Number
pub mod Places

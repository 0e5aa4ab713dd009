pub mod Bytes
pub mod Numbers
pub mod Digits
pub mod Lines
pub mod Steps
pub mod Replies
pub mod Readings
pub mod Texts

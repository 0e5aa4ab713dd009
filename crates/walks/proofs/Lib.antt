pub mod Walks
pub mod Shared

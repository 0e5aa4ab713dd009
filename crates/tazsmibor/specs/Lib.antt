pub mod Floating
pub mod Exports

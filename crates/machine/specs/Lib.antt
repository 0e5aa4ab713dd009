pub mod Floats
pub mod Shortcuts

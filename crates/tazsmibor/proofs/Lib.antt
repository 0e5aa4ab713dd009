pub mod Floating
pub mod Placing
pub mod Exporting

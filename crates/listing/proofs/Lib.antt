pub mod Counting
pub mod Filling
pub mod Cells
pub mod Delivering
pub mod Refusing

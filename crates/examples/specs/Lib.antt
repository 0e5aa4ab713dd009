pub mod Quoted
pub mod Starred

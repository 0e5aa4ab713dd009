pub mod Members
pub mod Kinds
pub mod Records
pub mod Faults
pub mod Boxes
pub mod Cells
pub mod Sheets
pub mod Replies

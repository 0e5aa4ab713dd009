pub mod Sums
pub mod Bounding
pub mod Narrowings
pub mod Sheets
pub mod Listings
pub mod Starred

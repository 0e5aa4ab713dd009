pub mod Listings
pub mod Buffers

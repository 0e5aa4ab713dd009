pub mod Floats
pub mod HalfUlps
pub mod Gridding
pub mod Guesses
pub mod KnownEnds
pub mod Shortcutting

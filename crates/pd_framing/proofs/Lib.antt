pub mod Lists
pub mod Keeping
pub mod Framing
pub mod Framed

pub mod Lists
pub mod Keys
pub mod Bytes
pub mod Numbers
pub mod Fits
pub mod Refers
mod Claims

-- For the proofs alone: no public contract cites it.
pub mod Scan
pub mod Scanning

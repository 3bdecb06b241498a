-- For the code's proofs: no public contract needs it.
pub mod Beginning

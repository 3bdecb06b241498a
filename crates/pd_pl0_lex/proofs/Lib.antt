pub mod Finding
pub mod FoundPieces

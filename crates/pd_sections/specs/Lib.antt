-- Definitions, which public contracts cite: Pieces, Lexing, Pl0Pieces, Positions, Refusing, SlPieces and Written.
-- For the proofs alone: Starts.
pub mod Pieces
pub mod Lexing
pub mod Pl0Pieces
pub mod Positions
pub mod Refusing
pub mod SlPieces
pub mod Starts
pub mod Written

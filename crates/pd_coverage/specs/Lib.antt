-- Definitions, which public contracts cite.
pub mod Coverage
pub mod Lines
pub mod Text
pub mod Report
-- For the code's proofs.
pub mod Table

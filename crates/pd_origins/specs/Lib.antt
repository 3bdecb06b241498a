-- Definitions, which public contracts cite.
pub mod Origins
pub mod Ledger
pub mod Laws

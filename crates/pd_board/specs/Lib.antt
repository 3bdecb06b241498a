-- Definitions, which public contracts cite: Bits, Chain, Answers, Order, OnContext, Standing, Reading, Kept, Bound, NodeBits, Plain and Tally.
-- For the proofs, but for a few words that `standing_of` uses: Life, Journal and Sessions.
pub mod Bits
pub mod Chain
pub mod Answers
pub mod Order
pub mod OnContext
pub mod Standing
pub mod Reading
pub mod NodeBits
pub mod Life
pub mod Journal
pub mod Kept
pub mod Bound
pub mod Sessions
pub mod Plain
pub mod Tally

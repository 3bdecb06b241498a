-- Definitions, which public contracts cite: Logs, Life, Acts, Seen, Served, Replies and Record.
-- For the laws on a record that grows: Turning, Step, Serving, Stopping and Laws. For proofs alone: Replying.
pub mod Logs
pub mod Life
pub mod Acts
pub mod Seen
pub mod Served
pub mod Replies
pub mod Record
pub mod Turning
pub mod Step
pub mod Serving
pub mod Stopping
pub mod Replying
pub mod Laws

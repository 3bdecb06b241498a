pub mod BitLemmas
pub mod ChainLemmas
pub mod StandLemmas
pub mod KeptLemmas
pub mod TellLemmas
pub mod PlainLemmas
pub mod TallyLemmas
mod Turns

-- For the proofs of the code.
pub mod DeliveringLaws
pub mod OfferingLaws
pub mod FinishingLaws
pub mod KeepingLaws
pub mod ShowingLaws
pub mod ActingLaws
pub mod GrowingLaws
pub mod HitsLaws
pub mod ReplyLaws
pub mod AnsweringLaws
pub mod BeginningLaws
pub mod AskingLaws
pub mod ReadyLaws
pub mod StandingLaws

-- For the program that runs the cases: no library's contract cites it.
pub mod Answering
pub mod Plans

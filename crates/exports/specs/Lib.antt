-- The exported calls: what each returns, as one number, and what a run of the bench leaves.
pub mod Words
pub mod Chips

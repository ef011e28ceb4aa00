-- Laws of the error detection code. For callers: Laws, Change, and `to_one` of Octets. For the proofs of src/: the others.
pub mod Shifts
pub mod Laws
pub mod Change
pub mod Folds
pub mod Runs
pub mod Ring
pub mod Moved
pub mod Halves
pub mod Octets
pub mod Quotient

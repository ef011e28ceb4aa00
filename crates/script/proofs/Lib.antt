-- Laws of the bench's definitions, and its claims.
pub mod Answering
pub mod Running
pub mod Feeding
pub mod Claims

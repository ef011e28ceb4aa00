-- The bench's definitions: what sectors carry, what a call answers, what a line does and prints, the lines of a text, and the claims.
pub mod Disc
pub mod Answers
pub mod Bench
pub mod Feed
pub mod Claims

-- Claims about calls and lists of calls: demand 1; demand 3 of any machine, how the chip refines the row machine, what the chip counts and what its
-- answers show of it, consequences for the letter, a chip reset, the regulator's sentence, machines that demand 3 shuts out, runs that show these to be
-- no empty claims, the bench cases, the numbers that they leave open, starts with their byte count, and sectors of the three kinds.
pub mod Demand1
pub mod Demand3
pub mod Refinement
pub mod Counted
pub mod Shown
pub mod Wrong
pub mod Letter
pub mod Renewed
pub mod Sentence
pub mod Runs
pub mod NumbersMet
pub mod Cases
pub mod Pins
pub mod Starts
pub mod ThreeKinds

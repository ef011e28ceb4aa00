-- The laws that the contracts and the claims stand on.
pub mod FieldLaws
pub mod Powers
pub mod WordLaws
pub mod TableLaws
pub mod Lanes
pub mod RowLaws
pub mod Places
pub mod Coded
pub mod First
pub mod Validity
pub mod Written
pub mod Change
pub mod Claims

pub mod Sizes
pub mod Limits
pub mod Members
pub mod Points
pub mod Refusals
pub mod Sets
pub mod Lists
pub mod ChoiceParts

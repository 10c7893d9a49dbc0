pub mod Sessions
pub mod Showing
pub mod Scripts
pub mod Cases
pub mod NextParts

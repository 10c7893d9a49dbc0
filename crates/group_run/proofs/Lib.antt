pub mod Answers
pub mod Shown
pub mod Turning
pub mod Promise

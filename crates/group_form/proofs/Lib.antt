pub mod AskLaws
pub mod Driving
pub mod Undone
pub mod Restored
pub mod Keeping
pub mod NewestLaws
pub mod Untouched

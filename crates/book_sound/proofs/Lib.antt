pub mod ViewWalks
pub mod EntryWalks
pub mod Entries
pub mod Walks
pub mod Tests
pub mod Whole
pub mod Layouts

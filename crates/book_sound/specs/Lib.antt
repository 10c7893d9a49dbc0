pub mod EntryParts
pub mod Parts

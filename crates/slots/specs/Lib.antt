pub mod Slots
pub mod Columns
pub mod Changes
pub mod FrameParts

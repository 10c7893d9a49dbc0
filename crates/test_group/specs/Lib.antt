pub mod DeskParts
pub mod WordParts

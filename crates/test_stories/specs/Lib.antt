pub mod WordParts
pub mod DeskParts
pub mod CallParts

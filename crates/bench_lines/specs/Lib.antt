pub mod Words
pub mod Numerals
pub mod TextParts
pub mod Lines
pub mod LineParts
pub mod ReplyLines
pub mod Promises

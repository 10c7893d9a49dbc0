pub mod Queries
pub mod QueryParts

pub mod Places
pub mod Records
pub mod Books
pub mod Starts

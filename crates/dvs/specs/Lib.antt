pub mod BookCalls
pub mod MessageCalls
pub mod EventCalls
pub mod GroupCalls
pub mod CrossingCalls
pub mod Promises
pub mod Library

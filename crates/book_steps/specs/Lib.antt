pub mod Acts
pub mod Parts
pub mod ArrivalParts
pub mod Promises
pub mod LentParts

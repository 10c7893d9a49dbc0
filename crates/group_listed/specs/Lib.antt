pub mod SliceParts
pub mod Creates
pub mod CreateParts
pub mod Calls
pub mod Parts
pub mod Runs

pub mod Calls
pub mod Parts
pub mod Drives
pub mod Promises
pub mod Hosts
pub mod HostTurns

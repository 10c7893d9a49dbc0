pub mod FormCalls
pub mod Parts

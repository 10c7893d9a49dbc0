pub mod ParseParts
pub mod OperandParts
pub mod ShowParts

pub mod BeginLaws
pub mod CarrierLaws
pub mod OperandLaws
pub mod OwnLaws
pub mod StaysSoundLaws

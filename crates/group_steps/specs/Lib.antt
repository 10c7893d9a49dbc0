pub mod CarrierParts
pub mod OwnParts
pub mod VisitParts

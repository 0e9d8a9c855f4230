pub mod WithinLaws
pub mod IncrementLaws
pub mod FaultLaws
pub mod DemandLaws
mod OpenLaws
mod Zeros
mod HeldLaws
mod StartLaws
pub mod ActivityLaws
pub mod Examples

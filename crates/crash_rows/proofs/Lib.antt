pub mod Works
pub mod TablePlans

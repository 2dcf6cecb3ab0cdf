pub mod Direction
pub mod Demand3
pub mod Refusals

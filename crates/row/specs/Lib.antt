pub mod Writing
pub mod Buffer
pub mod Row
pub mod Theorems
pub mod Refusals

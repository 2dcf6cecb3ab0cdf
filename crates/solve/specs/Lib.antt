pub mod Answer
pub mod Level
pub mod Solve
pub mod Refusals
pub mod Demand2
pub mod Sizes
pub mod Bench

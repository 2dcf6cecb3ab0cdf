pub mod Equation
pub mod Theorems
pub mod Outcome
pub mod Answer
pub mod Search
pub mod Reach

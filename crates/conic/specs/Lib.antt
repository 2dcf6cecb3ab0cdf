pub mod Form
pub mod Base
pub mod Sizes
pub mod Refusals

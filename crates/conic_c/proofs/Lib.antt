pub mod Handing
pub mod Lengths
pub mod Promise
pub mod Refusals

pub mod Input
pub mod Cutter
pub mod Whole
pub mod Refusals

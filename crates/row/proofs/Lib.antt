pub mod Buffer
pub mod Decimal
pub mod Sizes
pub mod RowTells
pub mod Refusals
pub mod Promise

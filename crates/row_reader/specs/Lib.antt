pub mod Reading
pub mod Grammar
pub mod Theorems

pub mod Digits
pub mod Cutting
pub mod Numbers
pub mod Grammar
pub mod LongTexts
pub mod Promise

pub mod Paper
pub mod Normal
pub mod Legal
pub mod Sizes
pub mod NormalForms
pub mod Asked

pub mod Codes
pub mod Places
pub mod Promises
pub mod Theorems

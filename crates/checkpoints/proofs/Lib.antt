-- The laws of kept states, each on those before it, and what others may cite: Theorems.
pub mod Listing
pub mod Numbers
pub mod Calls
pub mod Kept
pub mod Shelves
pub mod Opened
pub mod Returns
pub mod GivenBack
pub mod Restored
pub mod Theorems

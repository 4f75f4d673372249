-- Whether a row names a bank.
pub mod Named

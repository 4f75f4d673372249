-- For the functions' proofs: HeldCalls, an edit without question 5 on cells.
pub mod HeldCalls

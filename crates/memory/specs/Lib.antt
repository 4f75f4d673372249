-- What a reader must believe of plan memory: Cells, Plan, Memory, Lent; of the theorems: PlanCells, Pairs. inner serves the functions and the proofs.
pub mod Cells
pub mod Plan
pub mod Memory
pub mod Lent
pub mod PlanCells
pub mod Pairs
pub mod inner

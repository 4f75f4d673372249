-- Theorems: what to cite. The others, for the functions' proofs: Answers, where the clashes of a bank stand; Done and CrewsDone, what each function leaves.
pub mod Answers
pub mod Done
pub mod CrewsDone
pub mod Theorems

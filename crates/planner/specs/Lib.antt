-- What a reader must believe of the planner's calls: Questions, Calls; States for the passes over edits above it. inner serves the layers above.
pub mod Questions
pub mod Calls
pub mod States
pub mod inner

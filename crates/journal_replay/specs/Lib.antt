-- What a reader must believe of a replay: Replay; of the theorems: Ends, and SameList for the one on lists. inner serves the functions.
pub mod Replay
pub mod Ends
pub mod SameList
pub mod inner

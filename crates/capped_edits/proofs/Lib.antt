-- The question of the cap, and an edit made and unmade.
pub mod Capped
pub mod Unmade

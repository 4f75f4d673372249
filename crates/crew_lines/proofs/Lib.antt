-- Days: the steps of a day, each ascending and apart from the others, and how many they are. Lines: their lines, by the cells of waves and steps.
-- Plans: what the calls that are made answer, and what is printed by their numbers. Answers: what is printed for a list, by its number.
pub mod Days
pub mod Lines
pub mod Plans
pub mod Answers

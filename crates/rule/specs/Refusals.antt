-- The number of a refusal, and of an answer.
use Rattle.std.specs.Prelude.{ℕ, Result, Ok, Err}
use Rattle.rule.specs.declared.refusal.Refusal.{Refusal}
use Rattle.rule.specs.declared.refusal.Refusal.TheVariants.{ManyBanks, ShortMemory, NoPlan, FarBank, SameBank, ClashThere}
use Rattle.rule.specs.declared.refusal.Refusal.TheVariants.{NoClash, ManyClashes, ManyBytes, NoBankCount, Unreadable, ShortOutput}
use Rattle.rule.specs.declared.refusal.Refusal.TheVariants.{WrongFirstField, WrongField, NoSpace, WrongName, NothingKept, LateRank}
use Rattle.rule.specs.declared.refusal.Refusal.TheVariants.{WrongCap, OverCap, Misnumbered, LargePlan, Retired, WrongCrew}
use Rattle.rule.specs.declared.refusal.Refusal.TheVariants.{NoCrew, NoSheet, ClashInWave}

-- the number of the first no
abbrev pub number_of : Refusal → ℕ
number_of ManyBanks = 1
number_of ShortMemory = 2
number_of NoPlan = 3
number_of FarBank = 4
number_of SameBank = 5
number_of ClashThere = 6
number_of NoClash = 7
number_of ManyClashes = 8
number_of ManyBytes = 9
number_of NoBankCount = 10
number_of Unreadable = 11
number_of ShortOutput = 12
number_of WrongFirstField = 13
number_of WrongField = 14
number_of NoSpace = 15
number_of WrongName = 16
number_of NothingKept = 17
number_of LateRank = 18
number_of WrongCap = 19
number_of OverCap = 20
number_of Misnumbered = 21
number_of LargePlan = 22
number_of Retired = 23
number_of WrongCrew = 24
number_of NoCrew = 25
number_of NoSheet = 26
number_of ClashInWave = 27

-- the number that a call answers: 0, or that of its refusal
abbrev pub number_in : {A : Type 0} → Result A Refusal → ℕ
number_in (Ok x) = 0
number_in (Err e) = number_of e

-- what it answers, or this where it is refused
abbrev pub value_or : {A : Type 0} → Result A Refusal → A → A
value_or (Ok x) y = x
value_or (Err e) y = y

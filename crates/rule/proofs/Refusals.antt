-- Refusals have numbers above 0.
use native.Mathlib.Omega.{arith}
use mathlib.Core.Path.{◌≡◌}
use Rattle.rule.specs.declared.refusal.Refusal.{Refusal}
use Rattle.rule.specs.declared.refusal.Refusal.TheVariants.{ManyBanks, ShortMemory, NoPlan, FarBank, SameBank, ClashThere}
use Rattle.rule.specs.declared.refusal.Refusal.TheVariants.{NoClash, ManyClashes, ManyBytes, NoBankCount, Unreadable, ShortOutput}
use Rattle.rule.specs.declared.refusal.Refusal.TheVariants.{WrongFirstField, WrongField, NoSpace, WrongName, NothingKept, LateRank}
use Rattle.rule.specs.declared.refusal.Refusal.TheVariants.{WrongCap, OverCap, Misnumbered, LargePlan, Retired, WrongCrew}
use Rattle.rule.specs.declared.refusal.Refusal.TheVariants.{NoCrew, NoSheet, ClashInWave}
use Rattle.rule.specs.Refusals.{number_of}

pub refused_some : (e : Refusal) → number_of e ≡ 0 → ⊥
refused_some ManyBanks h = omega (arith, h)
refused_some ShortMemory h = omega (arith, h)
refused_some NoPlan h = omega (arith, h)
refused_some FarBank h = omega (arith, h)
refused_some SameBank h = omega (arith, h)
refused_some ClashThere h = omega (arith, h)
refused_some NoClash h = omega (arith, h)
refused_some ManyClashes h = omega (arith, h)
refused_some ManyBytes h = omega (arith, h)
refused_some NoBankCount h = omega (arith, h)
refused_some Unreadable h = omega (arith, h)
refused_some ShortOutput h = omega (arith, h)
refused_some WrongFirstField h = omega (arith, h)
refused_some WrongField h = omega (arith, h)
refused_some NoSpace h = omega (arith, h)
refused_some WrongName h = omega (arith, h)
refused_some NothingKept h = omega (arith, h)
refused_some LateRank h = omega (arith, h)
refused_some WrongCap h = omega (arith, h)
refused_some OverCap h = omega (arith, h)
refused_some Misnumbered h = omega (arith, h)
refused_some LargePlan h = omega (arith, h)
refused_some Retired h = omega (arith, h)
refused_some WrongCrew h = omega (arith, h)
refused_some NoCrew h = omega (arith, h)
refused_some NoSheet h = omega (arith, h)
refused_some ClashInWave h = omega (arith, h)

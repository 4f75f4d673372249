-- A bank from its number.
use Rattle.std.specs.Prelude.{ℕ}
use Rattle.rule.specs.declared.Bank.{Bank}

-- the bank of this number
abbrev pub bank : ℕ → Bank
bank x = record { 0 = x }

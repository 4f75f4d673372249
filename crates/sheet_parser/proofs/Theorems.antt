-- The theorems to cite. Their proofs are in the files beside this one.
use mathlib.Core.Bool.{true, false}
use mathlib.Core.List.{List}
use mathlib.Core.Path.{◌≡◌}
use Prim.Native.Nat.{ℕ, ◌<◌}
use lib.Dec.{T}
use Rattle.sheet_parser.specs.Sheets.{SheetOf, Sheet, Fault, wave_read, waves_count, is_sheet}
use Rattle.sheet_parser.specs.Examples
use Rattle.sheet_parser.specs.Examples.{all_right, cases}
use Rattle.sheet_parser.proofs.Tests.{not_both}
use Rattle.sheet_parser.proofs.Decision
use Rattle.sheet_parser.proofs.Faults

-- 1. the decision accepts exactly the bytes that are the text of some waves of the n banks, with the foot of n and m
module _ (n m : ℕ) (bytes : List ℕ) where
  pub sheet_accepted : Sheet n m bytes → is_sheet n m bytes ≡ true
  sheet_accepted s = Decision.accepts s.is

  pub accepted_sheet : is_sheet n m bytes ≡ true → Sheet n m bytes
  accepted_sheet e = record { count = waves_count bytes; wave = wave_read bytes; is = Decision.accepted n m bytes e }

  pub refused_sheet : is_sheet n m bytes ≡ false → Sheet n m bytes → ⊥
  refused_sheet e s = not_both (sheet_accepted s) e

-- 2. the waves that are read off a sheet are those whose text it is
module _ {n m : ℕ} {bytes : List ℕ} {k : ℕ} {w : ℕ → ℕ} (sheet : SheetOf n m bytes k w) where
  pub read_count : waves_count bytes ≡ k
  read_count = Decision.read_count sheet

  pub read_wave : (b : ℕ) → b < n → wave_read bytes b ≡ w b
  read_wave = Decision.read_wave sheet

-- 3. one line alone is at fault
pub fault_one : {n : ℕ} {bytes : List ℕ} {l k : ℕ} → Fault n bytes l → Fault n bytes k → l ≡ k
fault_one = Faults.fault_one

-- 4. sheets, and bytes that are none, as the definitions decide them; among the sheets one that is not the planner's
pub examples : T (all_right cases)
examples = Examples.examples_hold

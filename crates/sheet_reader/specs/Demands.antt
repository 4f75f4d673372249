-- What a sheet is accepted for (02, N14), each demand by itself, of the waves read off the bytes.
use Rattle.std.specs.Prelude.{cond, List, [], ◌≡◌, ℕ, ◌≤◌, ◌<◌, T, ltb, get_or}
use Rattle.rule.specs.Lists.{memb, Sorted}
use Rattle.rule.specs.Graph.{Graph}
use Rattle.rule.specs.Wave.{wave_count}
use Rattle.memory.specs.Plan.{clash_count}
use Rattle.wave_lines.specs.Lines.{letters, Line, times}
use Rattle.wave_lines.specs.Foot.{Totals, totals_of}
use Rattle.sheet_writer.specs.Sheet.{sheet_of}
use Rattle.sheet_writer.specs.Reading.{waves_read, banks_read, totals_read}
use Rattle.sheet_parser.specs.Sheets.{waves_count}

-- line c of the waves
abbrev pub line_on : List ℕ → ℕ → Line
line_on bytes c = get_or (waves_read bytes) c (record { letter = 0; banks = [] })

-- it has the form of a sheet: it is the text of its waves and of some foot, letters in order from A, banks ascending
pub record InForm (bytes : List ℕ) : Type 0 where
  pub foot : Totals
  pub text : bytes ≡ sheet_of (waves_read bytes) foot.banks foot.clashes
  pub few : waves_count bytes ≤ 24
  pub lettered : (c : ℕ) → c < waves_count bytes → (line_on bytes c).letter ≡ get_or letters c 0
  pub ascend : (c : ℕ) → c < waves_count bytes → Sorted ltb (line_on bytes c).banks

-- it names each of n banks once, and nothing else
abbrev pub NamesOnce : ℕ → List ℕ → Type 0
NamesOnce n bytes = (b : ℕ) → times b (banks_read bytes) ≡ cond (ltb b n) 1 0

-- it has no empty wave
abbrev pub NoneEmpty : List ℕ → Type 0
NoneEmpty bytes = (c : ℕ) → c < waves_count bytes → (b : ℕ) × T (memb b (line_on bytes c).banks)

-- it ends in the foot of n banks and m clashes
abbrev pub EndsIn : ℕ → ℕ → List ℕ → Type 0
EndsIn n m bytes = totals_read bytes ≡ totals_of n m

-- it keeps clashing banks in different waves
abbrev pub KeepsApart : Graph → List ℕ → Type 0
KeepsApart G bytes = (x y : ℕ) → x < G.banks → y < G.banks → T (G.clash x y) → (c : ℕ) → c < waves_count bytes
    → T (memb x (line_on bytes c).banks) → T (memb y (line_on bytes c).banks) → ⊥

-- it uses at most k waves
abbrev pub AtMost : ℕ → List ℕ → Type 0
AtMost k bytes = waves_count bytes ≤ k

-- a sheet with each of n banks once, no empty wave and the foot of n and m: what number 26 asks
pub record Proper (n m : ℕ) (bytes : List ℕ) : Type 0 where
  pub form : InForm bytes
  pub once : NamesOnce n bytes
  pub none_empty : NoneEmpty bytes
  pub foot : EndsIn n m bytes

-- all of it, of the plan of G
pub record Acceptable (G : Graph) (bytes : List ℕ) : Type 0 where
  pub proper : Proper G.banks (clash_count G) bytes
  pub apart : KeepsApart G bytes
  pub few : AtMost (wave_count G) bytes

-- two banks in one wave that clash, by the waves w: the first is the lowest that does so with any, and below the second
pub record NamedPair (G : Graph) (w : ℕ → ℕ) (first second : ℕ) : Type 0 where
  pub low : first < G.banks
  pub low_second : second < G.banks
  pub clash : T (G.clash first second)
  pub same : w second ≡ w first
  pub ascend : first < second
  pub lowest : (x y : ℕ) → x < G.banks → y < G.banks → T (G.clash x y) → w y ≡ w x → first ≤ x

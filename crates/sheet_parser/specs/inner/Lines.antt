-- The lines of a sheet, as they are read: cells holds the wave of each bank that was named, and 24 for the others.
use Rattle.std.specs.Prelude.{Result, Ok, Err, List, ◌∷◌, ◌++◌, map, ◌⊎◌, ◌≡◌, ℕ, ◌+◌, ◌≤◌, ◌<◌, T, ltb, length, get_or, set, drop}
use Rattle.rule.specs.Lists.{upto, memb, Sorted}
use Rattle.rule.specs.Wave.{banks_by}
use Rattle.text.specs.Text.{joined}
use Rattle.text.specs.Numbers.{decimal}
use Rattle.wave_lines.specs.Lines.{letters, Line, line_by}
use Rattle.sheet_writer.specs.Sheet.{bank_text, line_text, head_text}
use Rattle.sheet_parser.specs.Sheets.{SheetOf, Fault}
use Rattle.sheet_parser.specs.inner.Numbers.{ByteAt, NoDigit}

-- the waves of the cells
abbrev pub wave_in : List ℕ → ℕ → ℕ
wave_in cells b = get_or cells b 0

-- the line of wave c with these banks
abbrev pub line_with_banks : ℕ → List ℕ → Line
line_with_banks c bs = record { letter = get_or letters c 0; banks = bs }

-- a cell for each of at most 1,024 banks
pub record Enough (cells : List ℕ) (n : ℕ) : Type 0 where
  pub most : n ≤ 1024
  pub long : n ≤ length cells

-- a bank can come next: it is one of the n, not below `low`, and not named so far
pub record Fits (cells : List ℕ) (n low b : ℕ) : Type 0 where
  pub high : low ≤ b
  pub bank : b < n
  pub free : get_or cells b 0 ≡ 24

-- the banks of a line can come: there are some, ascending, each one of the n and not named so far
pub record Banks (cells : List ℕ) (n : ℕ) (bs : List ℕ) : Type 0 where
  pub some : 1 ≤ length bs
  pub ascend : Sorted ltb bs
  pub fit : (b : ℕ) → T (memb b bs) → Fits cells n 0 b

-- a bank was taken at `at` for wave c
pub record Takes (s cells : List ℕ) (n c low at next low' : ℕ) (cells' : List ℕ) : Type 0 where
  pub bank : ℕ
  pub above : low' ≡ bank + 1
  pub fits : Fits cells n low bank
  pub text : drop at s ≡ decimal bank ++ drop next s
  pub ends : NoDigit (drop next s)
  pub set : cells' ≡ set cells bank c
  pub after : at ≤ next
  pub inside : next ≤ length s

-- none can be taken
abbrev pub NoBank : List ℕ → List ℕ → ℕ → ℕ → ℕ → Type 0
NoBank s cells n low at = (b : ℕ) (rest : List ℕ) → Fits cells n low b → NoDigit rest → drop at s ≡ decimal b ++ rest → ⊥

-- banks not named so far may have been given wave c
abbrev pub Grown : List ℕ → List ℕ → ℕ → ℕ → Type 0
Grown cells₀ cells n c = (b : ℕ) → b < n → (get_or cells b 0 ≡ get_or cells₀ b 0) ⊎ ((get_or cells₀ b 0 ≡ 24) × (get_or cells b 0 ≡ c))

-- from `from` up to `next` stand the letter of wave c and its banks below `low`, the last of them just below it
pub record OnLine (s cells₀ cells : List ℕ) (n c from low next : ℕ) : Type 0 where
  pub text : drop from s ≡ (get_or letters c 0 ∷ joined (map bank_text (banks_by (wave_in cells) low c))) ++ drop next s
  pub ends : 1 ≤ low → NoDigit (drop next s)
  pub banks : low ≤ n
  pub last : (b : ℕ) → low ≡ b + 1 → get_or cells b 0 ≡ c
  pub above : (b : ℕ) → low ≤ b → b < n → get_or cells b 0 ≡ c → ⊥
  pub grown : Grown cells₀ cells n c
  pub inside : next ≤ length s

-- no line of wave c stands at `from`
abbrev pub NoLine : List ℕ → List ℕ → ℕ → ℕ → ℕ → Type 0
NoLine s cells n c from = (bs rest : List ℕ) → Banks cells n bs → drop from s ≡ line_text (line_with_banks c bs) ++ rest → ⊥

-- the banks of a line were read, as far as they go
pub record Banked (s cells₀ cells : List ℕ) (n c from low next : ℕ) : Type 0 where
  pub line : OnLine s cells₀ cells n c from low next
  pub over : ByteAt s next 32 → ⊥

-- the line of wave c was read
pub record LineAt (s cells₀ cells : List ℕ) (n c from next : ℕ) : Type 0 where
  pub text : drop from s ≡ line_text (line_by (wave_in cells) n c) ++ drop next s
  pub inside : next ≤ length s
  pub held : (b : ℕ) × (b < n) × (get_or cells b 0 ≡ c)
  pub grown : Grown cells₀ cells n c

-- the first line was read
pub record HeadAt (s : List ℕ) (k next : ℕ) : Type 0 where
  pub text : s ≡ head_text k ++ drop next s
  pub few : k ≤ 24
  pub inside : next ≤ length s

abbrev pub NoHead : List ℕ → Type 0
NoHead s = (k : ℕ) (rest : List ℕ) → k ≤ 24 → s ≡ head_text k ++ rest → ⊥

-- the lines of the first c waves
unfoldable pub lines_text : (ℕ → ℕ) → ℕ → ℕ → List ℕ
lines_text w n c = joined (map (λ i. line_text (line_by w n i)) (upto c))

-- the first line and those of c waves were read
pub record Lines (s cells : List ℕ) (n k c next : ℕ) : Type 0 where
  pub text : s ≡ head_text k ++ (lines_text (wave_in cells) n c ++ drop next s)
  pub few : k ≤ 24
  pub inside : next ≤ length s
  pub named : (b : ℕ) → b < n → (get_or cells b 0 < c) ⊎ (get_or cells b 0 ≡ 24)
  pub held : (i : ℕ) → i < c → (b : ℕ) × (b < n) × (get_or cells b 0 ≡ i)

-- the bytes are no sheet of n banks, whatever its foot
abbrev pub NoLines : List ℕ → ℕ → Type 0
NoLines s n = (m k : ℕ) (w : ℕ → ℕ) → SheetOf n m s k w → ⊥

-- the bytes are no sheet of n banks and m clashes
abbrev pub NoSheet : List ℕ → ℕ → ℕ → Type 0
NoSheet s n m = (k : ℕ) (w : ℕ → ℕ) → SheetOf n m s k w → ⊥

-- what reading a sheet answers: how many waves it has, those of the cells, or the line at fault
abbrev pub SheetRead : Result ℕ ℕ → List ℕ → List ℕ → ℕ → ℕ → Type 0
SheetRead (Ok k) s cells n m = SheetOf n m s k (wave_in cells)
SheetRead (Err line) s cells n m = NoSheet s n m × Fault n s line

-- no bank was named so far
abbrev pub NoneNamed : List ℕ → ℕ → Type 0
NoneNamed cells n = (b : ℕ) → b < n → get_or cells b 0 ≡ 24

-- every bank was
abbrev pub AllNamed : List ℕ → ℕ → Type 0
AllNamed cells n = (b : ℕ) → b < n → get_or cells b 0 < 24

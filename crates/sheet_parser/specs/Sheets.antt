-- A sheet from anybody (02, N14): exactly the text of some waves of the plan's banks. What that is, and the decision.
use Rattle.std.specs.Prelude.{Bool, true, false, cond, ◌&&◌, List, [], ◌∷◌, ◌++◌, map, ◌≡◌, ℕ, suc, ◌+◌, ◌≤◌, ◌<◌, eqb, leb, ltb, length}
use Rattle.rule.specs.Lists.{upto, memb, some}
use Rattle.text.specs.Text.{joined}
use Rattle.wave_lines.specs.Lines.{Line, lines_by}
use Rattle.sheet_writer.specs.Sheet.{line_text, head_text, sheet_by}
use Rattle.sheet_writer.specs.Reading.{waves_read}

-- n banks in k waves w: at most 24, each bank in one of them, none without a bank
pub record InWaves (n k : ℕ) (w : ℕ → ℕ) : Type 0 where
  pub few : k ≤ 24
  pub below : (b : ℕ) → b < n → w b < k
  pub none_empty : (c : ℕ) → c < k → (b : ℕ) × (b < n) × (w b ≡ c)

-- the bytes are the sheet of n banks in k waves w, with m clashes
pub record SheetOf (n m : ℕ) (bytes : List ℕ) (k : ℕ) (w : ℕ → ℕ) : Type 0 where
  pub waves : InWaves n k w
  pub text : bytes ≡ sheet_by w n k m

-- a sheet of n banks and m clashes: that of some waves
pub record Sheet (n m : ℕ) (bytes : List ℕ) : Type 0 where
  pub count : ℕ
  pub wave : ℕ → ℕ
  pub is : SheetOf n m bytes count wave

-- the first line and those of c waves begin a sheet of n banks, whatever follows them
pub record Begins (n : ℕ) (bytes : List ℕ) (c : ℕ) : Type 0 where
  pub count : ℕ
  pub wave : ℕ → ℕ
  pub rest : List ℕ
  pub few : count ≤ 24
  pub lines : c ≤ count
  pub none_empty : (i : ℕ) → i < c → (b : ℕ) × (b < n) × (wave b ≡ i)
  pub text : bytes ≡ head_text count ++ (joined (map line_text (lines_by wave n c)) ++ rest)

-- the line at fault, from 1: the lines before it begin a sheet, and with it they do not. It is the foot's where the lines of all waves begin one.
pub record Fault (n : ℕ) (bytes : List ℕ) (line : ℕ) : Type 0 where
  pub some : 1 ≤ line
  pub before : (c : ℕ) → line ≡ c + 2 → Begins n bytes c
  pub at : (c : ℕ) → line ≡ c + 1 → Begins n bytes c → ⊥

-- the number, from 0, of the first line that names b, or how many lines there are
unfoldable pub line_with : ℕ → List Line → ℕ
line_with b [] = 0
line_with b (l ∷ ls) = cond (memb b l.banks) 0 (suc (line_with b ls))

-- the waves that the bytes give the banks, and how many they are
abbrev pub wave_read : List ℕ → ℕ → ℕ
wave_read bytes b = line_with b (waves_read bytes)

abbrev pub waves_count : List ℕ → ℕ
waves_count bytes = length (waves_read bytes)

-- is it so of all?
unfoldable pub every : (ℕ → Bool) → List ℕ → Bool
every p [] = true
every p (x ∷ xs) = p x && every p xs

-- `InWaves`, tested
unfoldable pub in_waves : ℕ → ℕ → (ℕ → ℕ) → Bool
in_waves n k w =
    leb k 24 && (every (λ b. ltb (w b) k) (upto n) && every (λ c. some (λ b. eqb (w b) c) (upto n)) (upto k))

-- are the bytes equal?
unfoldable pub same_bytes : List ℕ → List ℕ → Bool
same_bytes [] [] = true
same_bytes [] (y ∷ ys) = false
same_bytes (x ∷ xs) [] = false
same_bytes (x ∷ xs) (y ∷ ys) = eqb x y && same_bytes xs ys

-- the decision: the lines give the banks waves as they should, and the bytes are the text of these waves
unfoldable pub is_sheet : ℕ → ℕ → List ℕ → Bool
is_sheet n m bytes =
    in_waves n (waves_count bytes) (wave_read bytes) && same_bytes bytes (sheet_by (wave_read bytes) n (waves_count bytes) m)

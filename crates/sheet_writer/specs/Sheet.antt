-- The sheet of a plan (01, "The sheet"): the text of its lines.
use Rattle.std.specs.Prelude.{List, [], ◌∷◌, ◌++◌, map, ℕ, length}
use Rattle.rule.specs.Graph.{Graph}
use Rattle.memory.specs.Plan.{clash_count}
use Rattle.text.specs.Text.{joined}
use Rattle.text.specs.Numbers.{decimal}
use Rattle.wave_lines.specs.Lines.{Line, lines_by, lines_of}
use Rattle.wave_lines.specs.Foot.{foot_text}

-- a bank, with one space before it
unfoldable pub bank_text : ℕ → List ℕ
bank_text b = 32 ∷ decimal b

-- a line ends in a line feed
unfoldable pub line_text : Line → List ℕ
line_text l = l.letter ∷ (joined (map bank_text l.banks) ++ (10 ∷ []))

-- the first line: `WAVES k`
unfoldable pub head_text : ℕ → List ℕ
head_text k = (87 ∷ 65 ∷ 86 ∷ 69 ∷ 83 ∷ 32 ∷ []) ++ (decimal k ++ (10 ∷ []))

-- the last line: the foot, `TOTAL n m`
unfoldable pub last_text : ℕ → ℕ → List ℕ
last_text n m = foot_text n m ++ (10 ∷ [])

-- the sheet of these waves, whichever they are: first `WAVES k`, then their lines, last `TOTAL n m`
unfoldable pub sheet_of : List Line → ℕ → ℕ → List ℕ
sheet_of lines n m = head_text (length lines) ++ (joined (map line_text lines) ++ last_text n m)

-- the sheet of n banks in k waves w, with m clashes
abbrev pub sheet_by : (ℕ → ℕ) → ℕ → ℕ → ℕ → List ℕ
sheet_by w n k m = sheet_of (lines_by w n k) n m

-- the sheet of a plan: its waves are the rule's
unfoldable pub sheet : Graph → List ℕ
sheet G = sheet_of (lines_of G) G.banks (clash_count G)

-- Sheets and no sheets, as the definitions decide them: one theorem that computes them all.
use Rattle.std.specs.Prelude.{Bool, true, false, ◌&&◌, List, [], ◌∷◌, ℕ, T}
use Rattle.std.specs.Bool.{beq}
use Rattle.rule.specs.Lists.{upto, filter, some, memb}
use Rattle.rule.specs.Wave.{banks_by}
use Rattle.text.specs.Text.{onto, rows, parts, joined}
use Rattle.text.specs.Numbers.{value_from, decimal_in, decimal}
use Rattle.wave_lines.specs.Lines.{letters}
use Rattle.wave_lines.specs.Foot.{foot_text}
use Rattle.sheet_writer.specs.Sheet.{bank_text, line_text, head_text, last_text, sheet_of}
use Rattle.sheet_writer.specs.Reading.{wave_of_parts, wave_on, between, waves_read}
use Rattle.sheet_parser.specs.Sheets.{line_with, every, in_waves, same_bytes, is_sheet}

-- banks, clashes, bytes, and whether they are a sheet
pub record Case : Type 0 where
  pub banks : ℕ
  pub clashes : ℕ
  pub bytes : List ℕ
  pub accepted : Bool

abbrev pub case : ℕ → ℕ → List ℕ → Bool → Case
case n m bytes accepted = record { banks = n; clashes = m; bytes = bytes; accepted = accepted }

pub all_right : List Case → Bool
all_right [] = true
all_right (c ∷ cs) = beq (is_sheet c.banks c.clashes c.bytes) c.accepted && all_right cs

pub cases : List Case
cases =
    -- 01's own sheet of its example
    case 4 4
    (87 ∷ 65 ∷ 86 ∷ 69 ∷ 83 ∷ 32 ∷ 50 ∷ 10
    ∷ 65 ∷ 32 ∷ 48 ∷ 32 ∷ 50 ∷ 10
    ∷ 66 ∷ 32 ∷ 49 ∷ 32 ∷ 51 ∷ 10
    ∷ 84 ∷ 79 ∷ 84 ∷ 65 ∷ 76 ∷ 32 ∷ 52 ∷ 32 ∷ 52 ∷ 10
    ∷ []) true
    -- the same waves the other way round: not the planner's
    ∷ case 4 4
    (87 ∷ 65 ∷ 86 ∷ 69 ∷ 83 ∷ 32 ∷ 50 ∷ 10
    ∷ 65 ∷ 32 ∷ 49 ∷ 32 ∷ 51 ∷ 10
    ∷ 66 ∷ 32 ∷ 48 ∷ 32 ∷ 50 ∷ 10
    ∷ 84 ∷ 79 ∷ 84 ∷ 65 ∷ 76 ∷ 32 ∷ 52 ∷ 32 ∷ 52 ∷ 10
    ∷ []) true
    -- the empty plan's
    ∷ case 0 0 (87 ∷ 65 ∷ 86 ∷ 69 ∷ 83 ∷ 32 ∷ 48 ∷ 10 ∷ 84 ∷ 79 ∷ 84 ∷ 65 ∷ 76 ∷ 32 ∷ 48 ∷ 32 ∷ 48 ∷ 10 ∷ []) true
    -- no last line feed
    ∷ case 4 4
    (87 ∷ 65 ∷ 86 ∷ 69 ∷ 83 ∷ 32 ∷ 50 ∷ 10
    ∷ 65 ∷ 32 ∷ 48 ∷ 32 ∷ 50 ∷ 10
    ∷ 66 ∷ 32 ∷ 49 ∷ 32 ∷ 51 ∷ 10
    ∷ 84 ∷ 79 ∷ 84 ∷ 65 ∷ 76 ∷ 32 ∷ 52 ∷ 32 ∷ 52 ∷ []) false
    -- banks that descend
    ∷ case 4 4
    (87 ∷ 65 ∷ 86 ∷ 69 ∷ 83 ∷ 32 ∷ 50 ∷ 10
    ∷ 65 ∷ 32 ∷ 50 ∷ 32 ∷ 48 ∷ 10
    ∷ 66 ∷ 32 ∷ 49 ∷ 32 ∷ 51 ∷ 10
    ∷ 84 ∷ 79 ∷ 84 ∷ 65 ∷ 76 ∷ 32 ∷ 52 ∷ 32 ∷ 52 ∷ 10
    ∷ []) false
    -- a zero in front
    ∷ case 4 4
    (87 ∷ 65 ∷ 86 ∷ 69 ∷ 83 ∷ 32 ∷ 50 ∷ 10
    ∷ 65 ∷ 32 ∷ 48 ∷ 32 ∷ 48 ∷ 50 ∷ 10
    ∷ 66 ∷ 32 ∷ 49 ∷ 32 ∷ 51 ∷ 10
    ∷ 84 ∷ 79 ∷ 84 ∷ 65 ∷ 76 ∷ 32 ∷ 52 ∷ 32 ∷ 52 ∷ 10
    ∷ []) false
    -- another foot
    ∷ case 4 4
    (87 ∷ 65 ∷ 86 ∷ 69 ∷ 83 ∷ 32 ∷ 50 ∷ 10
    ∷ 65 ∷ 32 ∷ 48 ∷ 32 ∷ 50 ∷ 10
    ∷ 66 ∷ 32 ∷ 49 ∷ 32 ∷ 51 ∷ 10
    ∷ 84 ∷ 79 ∷ 84 ∷ 65 ∷ 76 ∷ 32 ∷ 52 ∷ 32 ∷ 51 ∷ 10
    ∷ []) false
    -- a bank named twice, and one not
    ∷ case 4 4
    (87 ∷ 65 ∷ 86 ∷ 69 ∷ 83 ∷ 32 ∷ 50 ∷ 10
    ∷ 65 ∷ 32 ∷ 48 ∷ 32 ∷ 50 ∷ 10
    ∷ 66 ∷ 32 ∷ 48 ∷ 32 ∷ 51 ∷ 10
    ∷ 84 ∷ 79 ∷ 84 ∷ 65 ∷ 76 ∷ 32 ∷ 52 ∷ 32 ∷ 52 ∷ 10
    ∷ []) false
    -- a bank not named
    ∷ case 4 4
    (87 ∷ 65 ∷ 86 ∷ 69 ∷ 83 ∷ 32 ∷ 50 ∷ 10
    ∷ 65 ∷ 32 ∷ 48 ∷ 32 ∷ 50 ∷ 10
    ∷ 66 ∷ 32 ∷ 51 ∷ 10
    ∷ 84 ∷ 79 ∷ 84 ∷ 65 ∷ 76 ∷ 32 ∷ 52 ∷ 32 ∷ 52 ∷ 10
    ∷ []) false
    -- an empty wave
    ∷ case 2 0 (87 ∷ 65 ∷ 86 ∷ 69 ∷ 83 ∷ 32 ∷ 50 ∷ 10 ∷ 65 ∷ 10 ∷ 66 ∷ 32 ∷ 48 ∷ 32 ∷ 49 ∷ 10 ∷ 84 ∷ 79 ∷ 84 ∷ 65 ∷ 76 ∷ 32 ∷ 50 ∷ 32 ∷ 48 ∷ 10 ∷ []) false
    -- bytes after the foot
    ∷ case 0 0 (87 ∷ 65 ∷ 86 ∷ 69 ∷ 83 ∷ 32 ∷ 48 ∷ 10 ∷ 84 ∷ 79 ∷ 84 ∷ 65 ∷ 76 ∷ 32 ∷ 48 ∷ 32 ∷ 48 ∷ 10 ∷ 10 ∷ []) false
    -- nothing
    ∷ case 0 0 ([]) false
    ∷ []

pub examples_hold : T (all_right cases)
unfolding all_right cases upto filter some memb onto rows parts joined value_from decimal_in decimal letters banks_by foot_text bank_text line_text head_text
    last_text sheet_of wave_of_parts wave_on between waves_read line_with every in_waves same_bytes is_sheet
examples_hold = tt

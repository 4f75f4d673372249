-- What writing a sheet answers and leaves (01, "Calls" and "The questions").
use Rattle.std.specs.Prelude.{List, ℕ}
use Rattle.memory.specs.declared.Tally.{Tally}
use Rattle.memory.specs.Plan.{Slices}
use Rattle.wave_lines.specs.Calls.{TextResult, write_text}
use Rattle.sheet_writer.specs.Sheet.{sheet}

-- the call write a sheet, of any memory and any output
abbrev pub write_sheet : Slices → Tally → List ℕ → TextResult
write_sheet s t out = write_text sheet s t out

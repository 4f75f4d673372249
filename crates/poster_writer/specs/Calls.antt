-- What writing a poster answers and leaves (02, N3): questions 3 to 5 and 12, asked as for the sheet.
use Rattle.std.specs.Prelude.{List, ℕ}
use Rattle.memory.specs.declared.Tally.{Tally}
use Rattle.memory.specs.Plan.{Slices}
use Rattle.wave_lines.specs.Calls.{TextResult, write_text}
use Rattle.poster_lines.specs.Poster.{poster}

-- the call write a poster, of any memory and any output
abbrev pub write_poster : Slices → Tally → List ℕ → TextResult
write_poster s t out = write_text poster s t out

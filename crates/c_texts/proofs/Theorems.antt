-- What follows from the contracts of this crate, each restated in full: the length of a sheet and that of a poster fit the result cell.
use mathlib.Core.List.{List}
use Prim.Native.Nat.{ℕ, ◌≤◌}
use Rattle.memory.specs.declared.Tally.{Tally}
use Rattle.memory.specs.Plan.{Slices}
use Rattle.wave_lines.proofs.Writing.{written_most}
use Rattle.sheet_writer.specs.Sheet.{sheet}
use Rattle.sheet_writer.specs.Calls.{write_sheet}
use Rattle.sheet_writer.proofs.Theorems.{sheet_fits}
use Rattle.poster_lines.specs.Poster.{poster}
use Rattle.poster_writer.specs.Calls.{write_poster}
use Rattle.poster_writer.proofs.Theorems.{poster_fits}

pub sheet_short : (s : Slices) (t : Tally) (out : List ℕ) → (write_sheet s t out).answer.length ≤ 4084
sheet_short s t out = written_most sheet s t out 4084 sheet_fits

pub poster_short : (s : Slices) (t : Tally) (out : List ℕ) → (write_poster s t out).answer.length ≤ 8200
poster_short s t out = written_most poster s t out 8200 poster_fits

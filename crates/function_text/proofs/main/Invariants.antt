-- The text that the program prints: by whether it was given an argument.
use mathlib.Core.Bool.{cond}
use Rattle.sheet_writer.specs.Sheet.{sheet}
use Rattle.poster_lines.specs.Poster.{poster}
use Rattle.function_text.proofs.main.Given as goal

abbrev pub ghost-run : goal.ghost-run
ghost-run a = cond a.write.0.now poster sheet

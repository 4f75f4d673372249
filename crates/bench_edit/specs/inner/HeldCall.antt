-- An edit without question 5, on cells.
use Rattle.std.specs.Prelude.{ℕ}
use Rattle.rule.specs.Graph.{Graph}
use Rattle.rule.specs.declared.Kind.{Kind}
use Rattle.planner.specs.Calls.{edit_of}
use Rattle.c_cells.specs.CellMemory.{CellMemory, memory_in, Answered, done, edit_outcome}

-- of cells that hold the plan of G
abbrev pub held_call : Kind → Graph → ℕ → ℕ → CellMemory → Answered
held_call k G a b l = done (edit_outcome (edit_of k G a b (memory_in l))) l

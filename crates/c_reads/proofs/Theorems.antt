-- What follows from the contracts of this crate, restated in full: the part that clashes_of_in names holds the clashes of the bank, the filled part
-- of its row.
use mathlib.Core.List.{List}
use mathlib.Core.Path.{◌≡◌, refl, sym, ap, ◌∙◌}
use Prim.Native.Nat.{ℕ, ◌*◌, ◌≤◌}
use lib.ListN.{length, take, drop}
use Rattle.memory.specs.declared.Tally.{Tally}
use Rattle.memory.specs.Cells.{over}
use Rattle.memory.specs.Plan.{Slices}
use Rattle.planner.specs.Calls.{bank_number, clashes_of}
use Rattle.c_cells.specs.CellMemory.{tally_size, tally_in}
use Rattle.c_cells.proofs.Rooms.{none_short, roomed_none}
use Rattle.c_reads.specs.Reads.{ReadAnswered, read_answered, clashes_done, clashes_call, part_named}
use Rattle.c_reads.proofs.Answers as Answers

pub clashes_named : (b : ℕ) (s : Slices) (tally result : List ℕ) → tally_size ≤ length tally → 2 ≤ length result
    → part_named (clashes_call b s tally result).result s.neighbours ≡ clashes_of b s (tally_in tally)
unfolding clashes_call clashes_done part_named over
clashes_named b s tally result long fits =
    let call = roomed_none 2 (length tally) (length result) 0 (none_short 2 (length tally) (length result) long fits) (λ c. read_answered c result) _ refl in
    ap (λ (x : ReadAnswered). part_named x.result s.neighbours) (sym call) ∙ Answers.part_at b s (tally_in tally) _ refl

pub row_part : (b : ℕ) (s : Slices) (t : Tally) → bank_number b s t ≡ 0
    → take (length (clashes_of b s t)) (drop (23 * b) s.neighbours) ≡ clashes_of b s t
row_part = Answers.row_part

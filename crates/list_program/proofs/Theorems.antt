-- The theorems to cite.
use mathlib.Core.List.{List}
use mathlib.Core.Path.{◌≡◌, sym}
use Prim.Native.Nat.{ℕ, ◌≤◌}
use native.Mathlib.Omega.{arith}
use lib.ListN.{length}
use Rattle.memory.specs.Cells.{over}
use Rattle.list_pass.specs.Pass.{ListResult, read_list}
use Rattle.list_pass.specs.Ends.{end_of}
use Rattle.list_pass.proofs.Theorems.{accepted_holds, accepted_fits}
use Rattle.sheet_writer.proofs.Theorems as Sheets
use Rattle.poster_writer.proofs.Theorems as Posters
use Rattle.list_program.specs.Answers.{Text, Sheet, Poster, blank, text_of, answer_result, answer_of}
use Rattle.list_program.proofs.Answering.{answer_text-law}

-- an accepted list is answered by the text of the clashes in which it ends, in any output of 8,200 bytes
pub accepted_text-law : (t : Text) (list out : List ℕ) → (read_list list blank).answer.number ≡ 0 → 8200 ≤ length out
    → let text = text_of t (end_of list blank).graph in answer_of (text_of t) list out ≡ answer_result (length text) (over text out)
unfolding text_of
accepted_text-law Sheet list out z room =
    let l : ListResult = read_list list blank in
    let holds = accepted_holds list blank z in
    let fits = accepted_fits list blank z in
    let short : 4084 ≤ length out = omega arith in
    sym (answer_text-law (text_of Sheet) list out l (λ i. l) z _ (Sheets.never_short (end_of list blank).graph l.memory.slices l.memory.tally out holds fits short))
accepted_text-law Poster list out z room =
    let l : ListResult = read_list list blank in
    let holds = accepted_holds list blank z in
    let fits = accepted_fits list blank z in
    sym (answer_text-law (text_of Poster) list out l (λ i. l) z _ (Posters.never_short (end_of list blank).graph l.memory.slices l.memory.tally out holds fits room))

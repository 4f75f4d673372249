-- Theorems on runs: what to cite. Their proofs are in the files beside this one.
use mathlib.Core.Bool.{true}
use mathlib.Core.List.{List, [], ◌∷◌}
use mathlib.Core.Path.{◌≡◌, ap, ◌∙◌}
use Prim.Native.Nat.{ℕ}
use Rattle.memory.specs.declared.Tally.{Tally}
use Rattle.memory.specs.Plan.{Slices}
use Rattle.wave_lines.specs.Foot.{Totals}
use Rattle.wave_lines.specs.Calls.{written_bytes}
use Rattle.sheet_writer.specs.Calls.{write_sheet}
use Rattle.sheet_writer.specs.Reading as Sheets
use Rattle.sheet_writer.proofs.Theorems as SheetTheorems
use Rattle.poster_writer.specs.Calls.{write_poster}
use Rattle.poster_writer.specs.Reading as Posters
use Rattle.poster_writer.proofs.Theorems as PosterTheorems
use Rattle.totals.specs.Runs.{Depot, Call, Open, Edit, Record, SetCap, Read, Replay, OpenShelf, Keep, Return, Outcome, made, run}
use Rattle.totals.specs.Totals.{Count, nothing, counted, count_after, begins, no_return, Ours, OneCount}
use Rattle.totals.proofs.Counting.{Agrees, not_both, agrees_after, agrees_first}
use Rattle.totals.proofs.Owned.{Owned, opened_owned, one_count}

-- 1. which runs are ours: those without returns
pub without_returns : (cs : List Call) → no_return cs ≡ true → (d : Depot) (q : Count) → Ours cs d q
unfolding no_return
without_returns [] e d q = tt
without_returns (Open n ∷ cs) e d q = (tt, without_returns cs e _ _)
without_returns (Edit k a b ∷ cs) e d q = (tt, without_returns cs e _ _)
without_returns (Record k a b size journal ∷ cs) e d q = (tt, without_returns cs e _ _)
without_returns (SetCap most ∷ cs) e d q = (tt, without_returns cs e _ _)
without_returns (Read bytes ∷ cs) e d q = (tt, without_returns cs e _ _)
without_returns (Replay bytes ∷ cs) e d q = (tt, without_returns cs e _ _)
without_returns (OpenShelf n ∷ cs) e d q = (tt, without_returns cs e _ _)
without_returns (Keep name ∷ cs) e d q = (tt, without_returns cs e _ _)
without_returns (Return name ∷ cs) e d q = absurd (not_both e)

-- and those that open a plan, then the shelf for n banks, and keep, return to and open the shelf for plans of n banks alone
module _ (c : Call) (n : ℕ) (cs : List Call) (d : Depot) (opens : begins c (made c d).answer ≡ true) where
  abbrev first : Depot
  first = (made c d).depot

  abbrev count : Count
  count = counted c (made c d).answer nothing

  abbrev shelf_opened : Outcome
  shelf_opened = made (OpenShelf n) first

  abbrev count_then : Count
  count_then = counted (OpenShelf n) shelf_opened.answer count

  owned : shelf_opened.answer.number ≡ 0 → Owned n shelf_opened.depot.shelf count_then.kept
  unfolding made
  owned room = opened_owned n first.shelf room count_then.kept

  pub opened_ours : shelf_opened.answer.number ≡ 0 → OneCount n cs shelf_opened.depot count_then → Ours (OpenShelf n ∷ cs) first count
  opened_ours room fits =
      let right = agrees_after (OpenShelf n) first count (agrees_first c d nothing (λ i h. tt) opens) tt in
      (tt, one_count n cs shelf_opened.depot count_then right (owned room) fits)

-- the count stays right in a run
stays_right : (cs : List Call) (d : Depot) (q : Count) → Agrees d q → Ours cs d q → Agrees (run cs d) (count_after cs d q)
unfolding run count_after
stays_right [] d q agrees ours = agrees
stays_right (c ∷ cs) d q agrees ours =
    stays_right cs (made c d).depot (counted c (made c d).answer q) (agrees_after c d q agrees ours.0) ours.1

-- a run from any memory and any shelf that begins with an opening, a list or a replay that opens a plan, and whose returns are to states that it kept
module _ (c : Call) (cs : List Call) (d : Depot) (opens : begins c (made c d).answer ≡ true)
    (ours : Ours cs (made c d).depot (counted c (made c d).answer nothing)) where
  right : Agrees (run (c ∷ cs) d) (count_after (c ∷ cs) d nothing)
  unfolding run count_after
  right = stays_right cs (made c d).depot (counted c (made c d).answer nothing) (agrees_first c d nothing (λ i h. tt) opens) ours

  -- 2. after it the tally's clashes are the total that is counted from the calls and their answers, and its bank count is the one counted
  pub adds_up : (run (c ∷ cs) d).memory.tally.clashes ≡ (count_after (c ∷ cs) d nothing).total
  adds_up = right.clashes

  pub banks_counted : (run (c ∷ cs) d).memory.tally.banks ≡ (count_after (c ∷ cs) d nothing).banks
  banks_counted = right.banks

  -- 3. and so is the number of clashes read off the foot of the sheet that is written then, and of the poster
  abbrev slices : Slices
  slices = (run (c ∷ cs) d).memory.slices

  abbrev tally : Tally
  tally = (run (c ∷ cs) d).memory.tally

  pub sheet_adds_up : (out : List ℕ) → (write_sheet slices tally out).answer.number ≡ 0
      → (Sheets.totals_read (written_bytes (write_sheet slices tally out))).clashes ≡ (count_after (c ∷ cs) d nothing).total
  sheet_adds_up out done = ap (λ (t : Totals). t.clashes) (SheetTheorems.written_totals slices tally out done) ∙ adds_up

  pub poster_adds_up : (out : List ℕ) → (write_poster slices tally out).answer.number ≡ 0
      → (Posters.totals_read (written_bytes (write_poster slices tally out))).clashes ≡ (count_after (c ∷ cs) d nothing).total
  poster_adds_up out done = ap (λ (t : Totals). t.clashes) (PosterTheorems.written_totals slices tally out done) ∙ adds_up

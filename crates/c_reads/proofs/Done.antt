-- What each function leaves, of what its calls left: by the definition of its call. `short` is what `room` answered.
use mathlib.Core.List.{List, [], ◌∷◌}
use mathlib.Core.Path.{◌≡◌, sym, ap, ap₂, subst, ◌∙◌}
use Prim.Native.Nat.{ℕ}
use lib.ListN.{length}
use Rattle.memory.specs.declared.Tally.{Tally}
use Rattle.memory.specs.Cells.{over}
use Rattle.memory.specs.Plan.{Slices}
use Rattle.planner.specs.Calls.{plan_number, bank_number, wave_of, clashes_of}
use Rattle.wave_bounds.specs.Calls.{bound_of}
use Rattle.direct_rule.specs.Calls.{direct_number, rule_wave_of}
use Rattle.sheet_reader.specs.Calls.{Verdict, Answered}
use Rattle.c_cells.specs.CellMemory.{tally_in, short_number, roomed}
use Rattle.c_cells.proofs.Rooms.{roomed_none}
use Rattle.c_reads.specs.Reads.{read_answered, wave_done, wave_call, bound_done, bound_call, direct_done, direct_call, row_start, clashes_done, clashes_call}
use Rattle.c_reads.specs.Sheets.{verdict_cells, SheetChecked}

-- a call whose only result is one number
module _ (tally result : List ℕ) (short : ℕ) (t : Tally) (at : t ≡ tally_in tally) (none : short ≡ 0) where
  pub one_done : (number_of value_of : Tally → ℕ) (number value : ℕ) (result' : List ℕ)
      → short ≡ short_number 1 (length tally) (length result)
      → number ≡ number_of t
      → value ≡ value_of t
      → result' ≡ over (value ∷ []) result
      → read_answered number result'
      ≡ roomed (short_number 1 (length tally) (length result)) (λ c. read_answered c result)
      (read_answered (number_of (tally_in tally)) (over (value_of (tally_in tally) ∷ []) result))
  one_done number_of value_of number value result' is num call put =
      rw (← at)
      (ap₂ read_answered num (put ∙ ap (λ (w : ℕ). over (w ∷ []) result) call)
      ∙ roomed_none 1 (length tally) (length result) short is (λ c. read_answered c result) _ none)

  pub bound_done-law : (s : Slices) (number bound : ℕ) (result' : List ℕ)
      → short ≡ short_number 1 (length tally) (length result)
      → number ≡ plan_number s t
      → bound ≡ bound_of s t
      → result' ≡ over (bound ∷ []) result
      → read_answered number result' ≡ bound_call s tally result
  unfolding bound_call bound_done
  bound_done-law s = one_done (plan_number s) (bound_of s)

module _ (s : Slices) (tally result : List ℕ) (short b : ℕ) (t : Tally) (at : t ≡ tally_in tally) (none : short ≡ 0) where
  pub wave_done-law : (number wave : ℕ) (result' : List ℕ)
      → short ≡ short_number 1 (length tally) (length result)
      → number ≡ bank_number b s t
      → wave ≡ wave_of b s t
      → result' ≡ over (wave ∷ []) result
      → read_answered number result' ≡ wave_call b s tally result
  unfolding wave_call wave_done
  wave_done-law = one_done tally result short t at none (bank_number b s) (wave_of b s)

  pub direct_done-law : (number wave : ℕ) (result' : List ℕ)
      → short ≡ short_number 1 (length tally) (length result)
      → number ≡ direct_number b s t
      → wave ≡ rule_wave_of b s t
      → result' ≡ over (wave ∷ []) result
      → read_answered number result' ≡ direct_call b s tally result
  unfolding direct_call direct_done
  direct_done-law = one_done tally result short t at none (direct_number b s) (rule_wave_of b s)

  pub clashes_done-law : (number start : ℕ) (part result' : List ℕ)
      → short ≡ short_number 2 (length tally) (length result)
      → number ≡ bank_number b s t
      → start ≡ row_start number b
      → part ≡ clashes_of b s t
      → result' ≡ over (start ∷ length part ∷ []) result
      → read_answered number result' ≡ clashes_call b s tally result
  unfolding clashes_call clashes_done
  clashes_done-law number start part result' is num begins call put =
      let starts : start ≡ row_start (bank_number b s t) b = begins ∙ ap (λ (c : ℕ). row_start c b) num in
      rw (← at)
      (ap₂ read_answered num (put ∙ ap₂ (λ (x : ℕ) (l : List ℕ). over (x ∷ length l ∷ []) result) starts call)
      ∙ roomed_none 2 (length tally) (length result) short is (λ c. read_answered c result) _ none)

-- checking a sheet
module _ (s : Slices) (tally result bytes : List ℕ) (short : ℕ) (is : short ≡ short_number 3 (length tally) (length result)) where
  pub sheet_short : (short ≡ 0 → ⊥) → SheetChecked s tally result bytes short result
  sheet_short some = record {
    short = λ q. ap (λ (c : ℕ). read_answered c result) is;
    done = λ z. absurd (some (is ∙ z));
  }

  pub sheet_done : (t : Tally) → t ≡ tally_in tally → short ≡ 0 → {v : Verdict} → Answered s t bytes v → {result' : List ℕ}
      → result' ≡ over (v.line ∷ v.first ∷ v.second ∷ []) result → SheetChecked s tally result bytes v.number result'
  unfolding verdict_cells
  sheet_done t at none {v} answered put = record {
    short = λ q. absurd (q (sym is ∙ none));
    done = λ z. (v, subst (λ (u : Tally). Answered s u bytes v) at answered, ap (read_answered v.number) put);
  }

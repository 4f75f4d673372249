-- The theorems to cite. Their proofs are in the files beside this one; those of the lines are in wave_lines.
use mathlib.Core.List.{List, map}
use mathlib.Core.Path.{◌≡◌, sym, ap, ap₂, ◌∙◌}
use Prim.Native.Nat.{ℕ, ◌+◌, ◌*◌, ◌≤◌}
use lib.Dec.{T}
use lib.ListN.{length}
use Rattle.std.specs.Prelude.{Ok}
use Rattle.rule.specs.Lists.{upto}
use Rattle.rule.specs.Graph.{Graph, empty}
use Rattle.rule.specs.Wave.{wave_count}
use Rattle.memory.specs.declared.Tally.{Tally}
use Rattle.memory.specs.Cells.{over}
use Rattle.memory.specs.Plan.{Slices, clash_count, graph_in, cap_fits, Clashes, PlanOf}
use Rattle.text.specs.Text.{joined}
use Rattle.wave_lines.specs.Lines.{lines_of}
use Rattle.wave_lines.specs.Foot.{totals_of}
use Rattle.wave_lines.specs.Calls.{text_result, written_bytes}
use Rattle.wave_lines.proofs.Plans as WaveLines
use Rattle.wave_lines.proofs.Writing as Writing
use Rattle.sheet_writer.specs.Sheet.{bank_text, head_text, last_text, sheet}
use Rattle.sheet_writer.specs.Calls.{write_sheet}
use Rattle.sheet_writer.specs.Reading.{waves_read, banks_read, count_read, totals_read}
use Rattle.sheet_writer.specs.Examples
use Rattle.sheet_writer.specs.Examples.{all_right, cases}
use Rattle.sheet_writer.proofs.Lengths
use Rattle.sheet_writer.proofs.Plans
use Rattle.sheet_writer.proofs.ReadBack

module _ (G : Graph) where
  -- 1. how long the sheet is, and that of no plan is longer than 4,084 bytes
  pub length_sheet : length (sheet G)
      ≡ length (head_text (wave_count G)) + (2 * wave_count G + length (joined (map bank_text (upto G.banks)))) + length (last_text G.banks (clash_count G))
  length_sheet = Lengths.length_sheet G

  pub sheet_fits : Clashes G → length (sheet G) ≤ 4084
  sheet_fits = Lengths.sheet_fits G

-- 2. the sheet of memory depends on nothing but the clashes whose plan it holds
pub one_sheet : (G H : Graph) (s : Slices) (t : Tally) → PlanOf G s t → PlanOf H s t → sheet G ≡ sheet H
one_sheet G H s t p q = sym (Plans.sheet_is G s t p) ∙ Plans.sheet_is H s t q

-- 3. an output of 4,084 bytes is never too short: memory that holds the plan of G, under a cap that fits, gives its sheet
pub never_short : (G : Graph) (s : Slices) (t : Tally) (out : List ℕ) → PlanOf G s t → T (cap_fits t) → 4084 ≤ length out
    → text_result (Ok (length (sheet G))) (over (sheet G) out) ≡ write_sheet s t out
never_short = Writing.never_short sheet 4084 sheet_fits one_sheet

-- 4. reading the sheet gives the number of waves, letters and banks of the waves, and on its foot the banks and the clashes of the plan
module _ (G : Graph) where
  pub count_read-law : count_read (sheet G) ≡ wave_count G
  count_read-law = ReadBack.count_read-law G

  pub waves_read-law : Clashes G → waves_read (sheet G) ≡ lines_of G
  waves_read-law = ReadBack.waves_read-law G

  pub totals_read-law : Clashes G → totals_read (sheet G) ≡ totals_of G.banks (clash_count G)
  totals_read-law = ReadBack.totals_read-law G

  -- the banks read off the sheet are as many as its foot says
  pub banks_add_up : Clashes G → length (banks_read (sheet G)) ≡ (totals_read (sheet G)).banks
  banks_add_up = ReadBack.banks_add_up G

-- so does reading the bytes that the call wrote, of memory that holds the plan of G
module _ (G : Graph) (s : Slices) (t : Tally) (out : List ℕ) (held : PlanOf G s t) (done : (write_sheet s t out).answer.number ≡ 0) where
  pub written_sheet : written_bytes (write_sheet s t out) ≡ sheet G
  written_sheet = Writing.written_text sheet s t out one_sheet G held done

  pub written_waves : waves_read (written_bytes (write_sheet s t out)) ≡ lines_of G
  written_waves = ap waves_read written_sheet ∙ ReadBack.waves_read-law G held.clashes

  pub written_add_up : length (banks_read (written_bytes (write_sheet s t out))) ≡ (totals_read (written_bytes (write_sheet s t out))).banks
  written_add_up = rw written_sheet (ReadBack.banks_add_up G held.clashes)

-- and the numbers read off the foot that the call wrote are the tally's
pub written_totals : (s : Slices) (t : Tally) (out : List ℕ) → (write_sheet s t out).answer.number ≡ 0
    → totals_read (written_bytes (write_sheet s t out)) ≡ totals_of t.banks t.clashes
written_totals s t out done =
    let G = graph_in t.banks s in
    let held = Writing.written_plan sheet s t out done in
    ap totals_read (written_sheet G s t out held done)
    ∙ ReadBack.totals_read-law G held.clashes
    ∙ sym (ap₂ totals_of (WaveLines.plan_banks G s t held) (WaveLines.plan_clashes G s t held))

-- 5. M1 to M9, their sheets included, are as the definitions have them
pub marked_examples : T (all_right cases (empty 0))
marked_examples = Examples.examples_hold

-- 6. the length that is answered is one of bytes in the output
pub written_within : (s : Slices) (t : Tally) (out : List ℕ) → (write_sheet s t out).answer.length ≤ length (write_sheet s t out).out
written_within = Writing.written_within sheet

-- The theorems to cite. Their proofs are in the files beside this one; what is a sheet, and which line is at fault, is proved in sheet_parser.
use mathlib.Core.List.{List}
use mathlib.Core.Logic.{◌⊎◌}
use mathlib.Core.Path.{◌≡◌, ap, ◌∙◌}
use Prim.Native.Nat.{ℕ, ◌<◌}
use lib.Dec.{T}
use Rattle.rule.specs.Graph.{Graph}
use Rattle.memory.specs.declared.Tally.{Tally}
use Rattle.memory.specs.Plan.{Slices, clash_count, graph_in, cap_fits, PlanOf}
use Rattle.planner.specs.Calls.{plan_number}
use Rattle.wave_lines.specs.Calls.{written_bytes}
use Rattle.sheet_writer.specs.Sheet.{sheet}
use Rattle.sheet_writer.specs.Calls.{write_sheet}
use Rattle.sheet_writer.proofs.Theorems.{written_sheet}
use Rattle.sheet_parser.specs.Sheets.{wave_read, waves_count}
use Rattle.sheet_parser.proofs.Theorems as Parser
use Rattle.sheet_reader.specs.Calls.{sheet_number, fault_first, fault_second, Verdict, Answered}
use Rattle.sheet_reader.specs.Demands.{Proper, Acceptable, NamedPair}
use Rattle.sheet_reader.proofs.Accepted

-- memory that holds the plan of G, under a cap that fits it
module _ (G : Graph) (s : Slices) (t : Tally) (plan : PlanOf G s t) (cap : T (cap_fits t)) (bytes : List ℕ) where
  -- 1. bytes are accepted exactly if, of the waves read off them: they have the form of a sheet, name every bank once, leave no wave empty, end in this plan's
  -- foot, keep clashing banks apart and use at most k waves
  pub accepted : sheet_number s t bytes ≡ 0 → Acceptable G bytes
  accepted = Accepted.acceptable G s t plan cap bytes

  pub acceptable : Acceptable G bytes → sheet_number s t bytes ≡ 0
  acceptable = Accepted.acceptable_passes G s t plan cap bytes

  -- 2. they get 26 exactly if one of the first four is not so
  pub improper : (Proper G.banks (clash_count G) bytes → ⊥) → sheet_number s t bytes ≡ 26
  improper = Accepted.improper G s t plan cap bytes

  pub proper : Proper G.banks (clash_count G) bytes → sheet_number s t bytes ≡ 26 → ⊥
  proper = Accepted.proper_not_26 G s t plan cap bytes

-- 3. the planner's own sheet of the same plan is always accepted: the sheet of its clashes, and the bytes that write_sheet wrote
module _ (G : Graph) (s : Slices) (t : Tally) (plan : PlanOf G s t) (cap : T (cap_fits t)) where
  pub own_accepted : sheet_number s t (sheet G) ≡ 0
  own_accepted = Accepted.own_accepted G s t plan cap

  pub written_accepted : (out : List ℕ) → (write_sheet s t out).answer.number ≡ 0 → sheet_number s t (written_bytes (write_sheet s t out)) ≡ 0
  written_accepted out done = ap (sheet_number s t) (written_sheet G s t out plan done) ∙ own_accepted

-- 4. beside 27 the two banks that are named clash and stand in one wave of the sheet, and are the lowest that do; or they are 0 and 0, and there are too many
-- waves alone
pub named_clash : (s : Slices) (t : Tally) (bytes : List ℕ) → plan_number s t ≡ 0 → sheet_number s t bytes ≡ 27
    → NamedPair (graph_in t.banks s) (wave_read bytes) (fault_first s t bytes) (fault_second s t bytes)
    ⊎ ((fault_first s t bytes ≡ 0) × (fault_second s t bytes ≡ 0) × (t.waves < waves_count bytes))
named_clash = Accepted.named_27

-- 5. nothing of the answer may vary: two answers beside 26 name the same line
pub one_line : {s : Slices} {t : Tally} {bytes : List ℕ} {a b : Verdict} → Answered s t bytes a → Answered s t bytes b → a.number ≡ 26 → b.number ≡ 26
    → a.line ≡ b.line
one_line p q e f = Parser.fault_one (p.fault e) (q.fault f)

-- What the call check_sheet answers of what it is lent (02, N14).
use Rattle.std.specs.Prelude.{Bool, cond, ◌&&◌, not, Result, Ok, Err, List, [], ◌∷◌, ◌≡◌, ⊤, ℕ, ◌≤◌, ◌<◌, leb, eqb}
use Rattle.rule.specs.Lists.{upto, some}
use Rattle.rule.specs.Graph.{Graph, neighbours}
use Rattle.rule.specs.Refusals.{number_of}
use Rattle.memory.specs.declared.Tally.{Tally}
use Rattle.memory.specs.Plan.{Slices, long_enough, graph_in, holds}
use Rattle.planner.specs.Questions.{◌else◌, first_no}
use Rattle.sheet_parser.specs.Sheets.{Fault, wave_read, waves_count, is_sheet}
use Rattle.sheet_reader.specs.declared.refusal.SheetRefusal.{SheetRefusal}
use Rattle.sheet_reader.specs.declared.refusal.SheetRefusal.TheVariants.{Asked, NoSheet, Clash, ManyWaves}

-- does a bank that clashes with b stand in its wave?
unfoldable pub has_clash : Graph → (ℕ → ℕ) → ℕ → Bool
has_clash G w b = some (λ v. eqb (w v) (w b)) (neighbours G b)

-- does any?
unfoldable pub any_clash : Graph → (ℕ → ℕ) → Bool
any_clash G w = some (has_clash G w) (upto G.banks)

-- questions 3 to 5, then 26, then 27
unfoldable pub sheet_number : Slices → Tally → List ℕ → ℕ
sheet_number s t bytes =
    first_no
    ((leb t.banks 1024 else 1)
    ∷ (long_enough t.banks s else 2)
    ∷ (holds s t else 3)
    ∷ (is_sheet t.banks t.clashes bytes else 26)
    ∷ (not (any_clash (graph_in t.banks s) (wave_read bytes)) && leb (waves_count bytes) t.waves else 27)
    ∷ [])

-- the first that passes the test, or 0
unfoldable pub first_of : (ℕ → Bool) → List ℕ → ℕ
first_of p [] = 0
first_of p (x ∷ xs) = cond (p x) x (first_of p xs)

-- two clashing banks in one wave, the lowest first bank, then the lowest second; 0 and 0 if there are none
unfoldable pub clash_first : Graph → (ℕ → ℕ) → ℕ
clash_first G w = first_of (has_clash G w) (upto G.banks)

unfoldable pub clash_second : Graph → (ℕ → ℕ) → ℕ
clash_second G w = first_of (λ v. eqb (w v) (w (clash_first G w))) (neighbours G (clash_first G w))

-- the two banks beside number 27, or 0
unfoldable pub fault_first : Slices → Tally → List ℕ → ℕ
fault_first s t bytes = cond (eqb (sheet_number s t bytes) 27) (clash_first (graph_in t.banks s) (wave_read bytes)) 0

unfoldable pub fault_second : Slices → Tally → List ℕ → ℕ
fault_second s t bytes = cond (eqb (sheet_number s t bytes) 27) (clash_second (graph_in t.banks s) (wave_read bytes)) 0

-- the parts of an answer: the number, the line at fault, and the two banks; 0 where it has none
pub record Verdict : Type 0 where
  pub number : ℕ
  pub line : ℕ
  pub first : ℕ
  pub second : ℕ

-- those of what the call answers
abbrev pub verdict_of : Result ⊤ SheetRefusal → Verdict
verdict_of (Ok done) = record { number = 0; line = 0; first = 0; second = 0 }
verdict_of (Err (Asked e)) = record { number = number_of e; line = 0; first = 0; second = 0 }
verdict_of (Err (NoSheet line)) = record { number = 26; line = line; first = 0; second = 0 }
verdict_of (Err (Clash first second)) = record { number = 27; line = 0; first = first.0; second = second.0 }
verdict_of (Err ManyWaves) = record { number = 27; line = 0; first = 0; second = 0 }

-- each refusal is of its kind: a question about the plan has a number up to 3, and banks that are named are two
abbrev pub OfKind : Result ⊤ SheetRefusal → Type 0
OfKind (Ok done) = ⊤
OfKind (Err (Asked e)) = number_of e ≤ 3
OfKind (Err (NoSheet line)) = ⊤
OfKind (Err (Clash first second)) = first.0 < second.0
OfKind (Err ManyWaves) = ⊤

-- what the call answers: beside 26 the line at fault, beside 27 the two banks
pub record Answered (s : Slices) (t : Tally) (bytes : List ℕ) (r : Verdict) : Type 0 where
  pub number : r.number ≡ sheet_number s t bytes
  pub fault : r.number ≡ 26 → Fault t.banks bytes r.line
  pub line : (r.number ≡ 26 → ⊥) → r.line ≡ 0
  pub first : r.first ≡ fault_first s t bytes
  pub second : r.second ≡ fault_second s t bytes

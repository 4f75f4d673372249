-- The N row of a list: where it starts, and what it does.
use mathlib.Core.Bool.{Bool, true, false}
use mathlib.Core.List.{List, [], ◌∷◌, map}
use mathlib.Core.Logic.{inl, inr}
use mathlib.Core.Path.{◌≡◌, refl, sym, ap, ap₂, ◌∙◌}
use Prim.Native.Nat.{ℕ, zero, suc, ◌+◌, ◌-◌, ◌≤◌, ◌<◌, min}
use native.Mathlib.Omega.{arith}
use lib.ListN.{length, take, drop, drop_of_length-le}
use lib.Seq.{take-nil}
use borrow.Author.Tests.{le-leb, lt-leb}
use Rattle.std.specs.Prelude.{Result}
use Rattle.rule.specs.declared.refusal.Refusal.{Refusal}
use Rattle.rule.specs.Graph.{Graph}
use Rattle.rule.specs.Refusals.{number_in}
use Rattle.rule.proofs.Booleans.{lt_or_ge}
use Rattle.memory.specs.declared.Tally.{Tally}
use Rattle.memory.specs.Memory.{Memory}
use Rattle.memory.specs.Memory.{Ready}
use Rattle.text.specs.Text.{parts, rows}
use Rattle.text.specs.Places.{Finds}
use Rattle.text.proofs.Theorems.{rows_at}
use Rattle.list_rows.specs.declared.row.Row.{Row}
use Rattle.list_rows.specs.declared.row.Row.TheVariants.{Banks, Edit, Unreadable, Retired}
use Rattle.list_rows.specs.Rows.{from_parts, row_of, is_v2, retire, say_in, start_v2, from_n, n_row, list_v2}
use Rattle.list_pass.specs.declared.First.{First}
use Rattle.list_pass.specs.inner.Steps.{said_rows, StartsAt}
use Rattle.list_pass.specs.Pass.{ListResult, list_result, reading, pass, begin_by, from_first, from_rows, read_list}
use Rattle.planner.specs.States.{begin, begin_number}
use Rattle.planner.specs.inner.Held.{at, Fresh, HoldsState, OpensAll}

-- question 1
pub too_long : (list : List ℕ) (m : Memory) → 60000 < length list → list_result (reading 9 0) m ≡ read_list list m
unfolding read_list
too_long list m h = rw (lt-leb (length list) 60000 h)

-- question 2, of a list whose N row is found
module _ (list : List ℕ) (m : Memory) (f : First) (s : StartsAt list f) where
  pub found : length list ≤ 60000 → read_list list m ≡ from_rows f.row (said_rows f.v2 (drop f.start list)) m
  unfolding read_list
  found h = rw (le-leb (length list) 60000 h) (ap₂ (λ (i : ℕ) (rs : List Row). from_rows i rs m) (sym (s.row ∙ ap n_row s.v2)) s.rows)

-- a row that is empty is no N row
empty_row : (i : ℕ) (v : Bool) (rs : List Row) (m : Memory) → from_rows i [] m ≡ from_first i (say_in row_of v []) rs m
unfolding from_rows from_first say_in retire row_of from_parts parts
empty_row i true rs m = refl
empty_row i false rs m = refl

no_banks : (i : ℕ) (m : Memory) (r : Row) (rs : List Row) → ((n : ℕ) → r ≡ Banks n → ⊥) → list_result (reading 10 i) m ≡ from_first i r rs m
unfolding from_first
no_banks i m (Banks n) rs k = absurd (k n refl)
no_banks i m (Edit c) rs k = refl
no_banks i m Unreadable rs k = refl
no_banks i m Retired rs k = refl

-- the row from `start` to e, which is row i
module _ (i : ℕ) (v : Bool) (m : Memory) (list : List ℕ) (start e : ℕ) (p : Finds list start 10 e) where
  abbrev first : List ℕ
  first = take (e - start) (drop start list)

  abbrev later : List Row
  later = said_rows v (drop (e + 1) list)

  row_there : start < length list → from_rows i (said_rows v (drop start list)) m ≡ from_first i (say_in row_of v first) later m
  unfolding from_rows
  row_there h = ap (λ (rs : List (List ℕ)). from_rows i (map (say_in row_of v) rs) m) (rows_at list start e h p)

  row_not : length list ≤ start → from_rows i (said_rows v (drop start list)) m ≡ from_first i (say_in row_of v first) later m
  unfolding rows
  row_not h =
      let none : drop start list ≡ [] = drop_of_length-le list h in
      ap (λ (l : List ℕ). from_rows i (said_rows v l) m) none
      ∙ empty_row i v later m
      ∙ ap (λ (l : List ℕ). from_first i (say_in row_of v l) later m) (sym (ap (take (e - start)) none ∙ take-nil (e - start)))

  row_from : from_rows i (said_rows v (drop start list)) m ≡ from_first i (say_in row_of v first) later m
  row_from = elim (lt_or_ge start (length list)) [ inl h ↦ row_there h | inr h ↦ row_not h ]

  -- it is no N row
  pub first_other : (r : Row) → r ≡ say_in row_of v first → ((n : ℕ) → r ≡ Banks n → ⊥)
      → list_result (reading 10 i) m ≡ from_rows i (said_rows v (drop start list)) m
  first_other r q k = no_banks i m r later k ∙ ap (λ (x : Row). from_first i x later m) q ∙ sym row_from

  -- it is the N row of n
  pub first_banks : (n : ℕ) → Banks n ≡ say_in row_of v first → begin_by i (begin_number n m) n later m ≡ from_rows i (said_rows v (drop start list)) m
  unfolding from_first
  first_banks n q = ap (λ (x : Row). from_first i x later m) q ∙ sym row_from

-- where the N row starts: the first row ends at e
module _ (e : ℕ) where
  none_v2 : (n : ℕ) → is_v2 (take n []) ≡ false
  unfolding is_v2
  none_v2 n = rw (take-nil n)

  starts : (list : List ℕ) → Finds list 0 10 e → is_v2 (take (e - 0) list) ≡ list_v2 list
  unfolding start_v2 rows
  starts [] p = none_v2 (e - 0)
  starts (x ∷ xs) p = ap start_v2 (sym (rows_at (x ∷ xs) 0 e (omega arith) p))

  module _ (list : List ℕ) (p : Finds list 0 10 e) where
    pub starts_plain : false ≡ is_v2 (take (e - 0) list) → StartsAt list (record { v2 = false; row = 1; start = 0 })
    unfolding n_row from_n
    starts_plain q =
        let v : false ≡ list_v2 list = q ∙ starts list p in
        record { v2 = v; row = refl; rows = rw (← v); inside = omega arith; later = omega arith }

    -- a row that is `V 2` is there
    some : (l : List ℕ) → true ≡ is_v2 (take (e - 0) l) → 0 < length l
    some [] q = absurd (let z : true ≡ false = q ∙ none_v2 (e - 0) in let o : ◌≡◌ {A = ℕ} 0 1 = cc in omega arith)
    some (x ∷ xs) q = omega arith

    module _ (q : true ≡ is_v2 (take (e - 0) list)) where
      starts_v2 : (start : ℕ) → 1 ≤ start → start ≤ length list → drop start list ≡ drop (e + 1) list
          → StartsAt list (record { v2 = true; row = 2; start = start })
      unfolding n_row from_n
      starts_v2 start l h d =
          let v : true ≡ list_v2 list = q ∙ starts list p in
          record {
            v2 = v;
            row = refl;
            rows = rw (← v, rows_at list 0 e (some list q) p, d);
            inside = h;
            later = omega arith;
          }

      pub starts_after : (start : ℕ) → start ≡ min (length list) (e + 1) → StartsAt list (record { v2 = true; row = 2; start = start })
      starts_after start m =
          starts_v2 start (omega (arith, some list q)) (omega arith)
          (elim (lt_or_ge e (length list)) [
            | inl l ↦ let k : start ≡ e + 1 = omega arith in ap (λ (n : ℕ). drop n list) k
            | inr h ↦
                let k : length list ≤ start = omega arith in
                let j : length list ≤ e + 1 = omega arith in
                drop_of_length-le list k ∙ sym (drop_of_length-le list j)
          ])

-- the N row, row i, by what opening did
module _ (i n : ℕ) (rs : List Row) (m : Memory) (r : Result Tally Refusal) (m' : Memory) (o : OpensAll n m r m') where
  refused_by : (k : ℕ) → (k ≡ 0 → ⊥) → list_result (reading k i) m ≡ begin_by i k n rs m
  unfolding begin_by
  refused_by zero z = absurd (z refl)
  refused_by (suc c) z = refl

  opened_by-law : (k : ℕ) → k ≡ 0 → pass (suc i) rs (begin n m) ≡ begin_by i k n rs m
  unfolding begin_by
  opened_by-law zero z = refl
  opened_by-law (suc c) z = absurd (omega arith)

  pub begin_refused : (number_in r ≡ 0 → ⊥) → list_result (reading (number_in r) i) m' ≡ begin_by i (begin_number n m) n rs m
  begin_refused z = ap (list_result (reading (number_in r) i)) (o.refused z) ∙ refused_by (number_in r) z ∙ ap (λ (k : ℕ). begin_by i k n rs m) o.number

  pub opened_state : number_in r ≡ 0 → HoldsState false m'
  opened_state z = let s = o.opened z in ((begin n m).graph, s.ready, unfold begin in s.fresh)

  begun_not : pass (suc i) rs (at false (begin n m).graph (begin n m).memory) ≡ pass (suc i) rs (begin n m)
  unfolding begin
  begun_not = refl

  pub begin_passed : number_in r ≡ 0 → (e : ListResult) → ((G : Graph) → Ready G m' → Fresh false G → e ≡ pass (suc i) rs (at false G m')) → e ≡ begin_by i (begin_number n m) n rs m
  begin_passed z e f =
      let s = o.opened z in
      f (begin n m).graph s.ready (unfold begin in s.fresh)
      ∙ ap (λ (x : Memory). pass (suc i) rs (at false (begin n m).graph x)) s.memory ∙ begun_not ∙ opened_by-law (begin_number n m) (sym o.number ∙ z)

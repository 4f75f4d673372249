-- The marked examples of 01, M1 to M9, as rows of one list, with its two sheets among them, and one theorem that computes them all.
use Rattle.std.specs.Prelude.{Bool, true, false, ◌&&◌, ℕ, T, eqb}
use mathlib.Core.List.{List, [], ◌∷◌, foldr}
use Rattle.rule.specs.Lists.{upto, filter, some, memb, insert_by, sort_by}
use Rattle.rule.specs.Order.{tie_by, earlier_by}
use Rattle.rule.specs.Graph.{Graph, neighbours, degree, earlier, later, earlier_neighbours, order, empty, pair, added}
use Rattle.rule.specs.Wave.{lowest_from, lowest_free, wave_in, wave, waves, wave_count, banks_by}
use Rattle.rule.specs.Reach.{edited, changed, is_named, is_turned, is_reached, on_trail, trail, moved}
use Rattle.rule.specs.declared.Kind.{Kind}
use Rattle.rule.specs.declared.Kind.TheVariants.{Adding, Striking}
use Rattle.memory.specs.Plan.{clash_count}
use Rattle.text.specs.Text.{joined}
use Rattle.text.specs.Numbers.{decimal_in, decimal}
use Rattle.wave_lines.specs.Lines.{letters, lines_of}
use Rattle.wave_lines.specs.Foot.{foot_text}
use Rattle.sheet_writer.specs.Sheet.{bank_text, line_text, head_text, last_text, sheet_of, sheet}

-- are the two lists equal?
same : List ℕ → List ℕ → Bool
same [] [] = true
same [] (y ∷ ys) = false
same (x ∷ xs) [] = false
same (x ∷ xs) (y ∷ ys) = eqb x y && same xs ys

-- n banks with these clashes
clashes : ℕ → List (ℕ × ℕ) → Graph
clashes n pairs = foldr (λ p G. added G p.0 p.1) (empty n) pairs

-- a row: n, the clashes, the number of waves and the waves; or an edit of the row before, the number of waves and the waves after it, the trail and
-- the moved list; or the sheet of the row before
pub data Case : Type 0 where
  given : ℕ → List (ℕ × ℕ) → ℕ → List ℕ → Case
  then : Kind → ℕ → ℕ → ℕ → List ℕ → List ℕ → List ℕ → Case
  shown : List ℕ → Case

-- the clashes after a row, from those of the row before
pub after : Case → Graph → Graph
after (given n pairs k ws) G = clashes n pairs
after (then e a b k ws path moves) G = edited e G a b
after (shown bytes) G = G

-- is the row as the definitions have it?
pub right : Case → Graph → Bool
right (given n pairs k ws) G = let H = clashes n pairs in eqb (wave_count H) k && same (waves H) ws
right (then e a b k ws path moves) G =
    let H = edited e G a b in
    eqb (wave_count H) k && same (waves H) ws && same (trail e G H a b) path && same (moved G H) moves
right (shown bytes) G = same (sheet G) bytes

-- are they all, each from the row before?
pub all_right : List Case → Graph → Bool
all_right [] G = true
all_right (c ∷ cs) G = right c G && all_right cs (after c G)

pub cases : List Case
cases =
    -- M1, and its sheet: `WAVES 0`, `TOTAL 0 0`
    given 0 [] 0 []
    ∷ shown (87 ∷ 65 ∷ 86 ∷ 69 ∷ 83 ∷ 32 ∷ 48 ∷ 10 ∷ 84 ∷ 79 ∷ 84 ∷ 65 ∷ 76 ∷ 32 ∷ 48 ∷ 32 ∷ 48 ∷ 10 ∷ [])
    -- M2, M3, M4
    ∷ given 3 [] 1 (0 ∷ 0 ∷ 0 ∷ [])
    ∷ then Adding 1 2 2 (0 ∷ 0 ∷ 1 ∷ []) (1 ∷ 2 ∷ []) (2 ∷ [])
    ∷ then Adding 0 1 2 (1 ∷ 0 ∷ 1 ∷ []) (1 ∷ 0 ∷ []) (0 ∷ [])
    ∷ then Adding 0 2 3 (0 ∷ 1 ∷ 2 ∷ []) (0 ∷ 1 ∷ 2 ∷ []) (0 ∷ 1 ∷ 2 ∷ [])
    -- M5, M6, M7; after M6 the sheet of 01's example list: `WAVES 2`, `A 0 2`, `B 1 3`, `TOTAL 4 4`
    ∷ given 4 ((0, 1) ∷ (1, 2) ∷ (2, 3) ∷ []) 2 (1 ∷ 0 ∷ 1 ∷ 0 ∷ [])
    ∷ then Adding 0 3 2 (0 ∷ 1 ∷ 0 ∷ 1 ∷ []) (0 ∷ 1 ∷ 2 ∷ 3 ∷ []) (0 ∷ 1 ∷ 2 ∷ 3 ∷ [])
    ∷ shown
    (87 ∷ 65 ∷ 86 ∷ 69 ∷ 83 ∷ 32 ∷ 50 ∷ 10
    ∷ 65 ∷ 32 ∷ 48 ∷ 32 ∷ 50 ∷ 10
    ∷ 66 ∷ 32 ∷ 49 ∷ 32 ∷ 51 ∷ 10
    ∷ 84 ∷ 79 ∷ 84 ∷ 65 ∷ 76 ∷ 32 ∷ 52 ∷ 32 ∷ 52 ∷ 10 ∷ [])
    ∷ then Striking 0 3 2 (1 ∷ 0 ∷ 1 ∷ 0 ∷ []) (1 ∷ 2 ∷ 0 ∷ 3 ∷ []) (1 ∷ 2 ∷ 0 ∷ 3 ∷ [])
    -- M8, M9
    ∷ given 6 ((0, 4) ∷ (0, 2) ∷ (2, 3) ∷ (1, 3) ∷ (1, 5) ∷ (2, 5) ∷ []) 2 (1 ∷ 0 ∷ 0 ∷ 1 ∷ 0 ∷ 1 ∷ [])
    ∷ then Striking 2 5 3 (0 ∷ 0 ∷ 1 ∷ 2 ∷ 1 ∷ 1 ∷ []) (0 ∷ 2 ∷ 3 ∷ 4 ∷ 5 ∷ []) (0 ∷ 2 ∷ 3 ∷ 4 ∷ [])
    ∷ []

pub examples_hold : T (all_right cases (empty 0))
unfolding same clashes after right all_right cases upto filter some memb insert_by sort_by tie_by earlier_by neighbours degree earlier later
    earlier_neighbours order pair lowest_from lowest_free wave_in wave waves wave_count edited changed is_named is_turned is_reached on_trail trail moved
    clash_count letters banks_by lines_of joined decimal_in decimal foot_text bank_text line_text head_text last_text sheet_of sheet
examples_hold = tt

-- The pieces of a line: how long they are, and the line by its number.
use mathlib.Core.Bool.{Bool, true, false, cond}
use mathlib.Core.List.{List, [], ◌∷◌, ◌++◌, map, append-nil}
use mathlib.Core.Logic.{◌≢◌}
use mathlib.Core.Path.{◌≡◌, refl, sym, ap, ◌∙◌}
use native.Mathlib.Omega.{arith}
use Prim.Native.Nat.{ℕ, zero, suc, ◌+◌, ◌≤◌, ◌<◌}
use lib.ListN.{length, get_or, take, length-append}
use Rattle.rule.specs.Graph.{Graph, earlier}
use Rattle.memory.specs.declared.Tally.{Tally}
use Rattle.memory.specs.Plan.{Slices, graph_in, PlanOf}
use Rattle.memory.specs.inner.Counts.{by_cells}
use Rattle.memory.specs.inner.View.{Held}
use Rattle.memory.proofs.Fronts.{take_next}
use Rattle.memory.proofs.Theorems.{held_of, shown, cells_earlier}
use Rattle.text.specs.Text.{joined}
use Rattle.text.proofs.Joined.{texts_append}
use Rattle.wave_lines.specs.Lines.{letters}
use Rattle.planner.specs.Calls.{wave_of, clashes_of}
use Rattle.direct_rule.specs.Calls.{direct_number, rule_wave_of}
use Rattle.list_program.specs.Answers.{named, refused_text}
use Rattle.list_program.proofs.Answering.{length_named}
use Rattle.doubt_lines.specs.Lines.{lettered, head_text, from_text, link_text, links_text, line_by, line_of}

-- how long they are
pub length_lettered : (text : List ℕ) (w : ℕ) → length (lettered text w) ≡ length text + 1
unfolding lettered
length_lettered text w = length-append text (get_or letters w 0 ∷ [])

from_short : (v w : ℕ) → v < 65536 → length (from_text v w) ≤ 13
unfolding from_text
from_short v w h =
    let name = named (32 ∷ 70 ∷ 82 ∷ 79 ∷ 77 ∷ 32 ∷ []) v in
    omega (arith, length-append name (lettered (32 ∷ []) w), length_named (32 ∷ 70 ∷ 82 ∷ 79 ∷ 77 ∷ 32 ∷ []) v h, length_lettered (32 ∷ []) w)

pub link_short : (b : ℕ) (s : Slices) (t : Tally) (v : ℕ) → v < 65536 → length (link_text b s t v) ≤ 13
unfolding link_text
link_short b s t v h = go (earlier (graph_in t.banks s) v b)
  where
    go : (x : Bool) → length (cond x (from_text v (rule_wave_of v s t)) []) ≤ 13
    go true = from_short v (rule_wave_of v s t) h
    go false = omega arith

-- in memory that holds a plan: the code's order is the plan's
module _ (s : Slices) (t : Tally) (plan : PlanOf (graph_in t.banks s) s t) where
  abbrev G : Graph
  G = graph_in t.banks s

  held : Held G s t.banks
  held = held_of G s t plan

  pub celled : (v : ℕ) → v < t.banks → (v < length s.degrees) × (v < length s.ranks)
  celled v l = (omega (arith, held.banks, held.rowed.wide_degrees), omega (arith, held.banks, held.ranked.wide))

  pub few_banks : t.banks ≤ 1024
  few_banks = omega (arith, held.banks, held.rowed.few)

  order : (v b : ℕ) → v < t.banks → b < t.banks → by_cells s.degrees s.ranks v b ≡ earlier G v b
  order v b lv lb = cells_earlier (shown held.rowed held.ranked) v b (omega (arith, held.banks)) (omega (arith, held.banks))

  module _ (v b : ℕ) (lv : v < t.banks) (lb : b < t.banks) where
    pub link_later : {x : Bool} → x ≡ by_cells s.degrees s.ranks v b → x ≡ false → link_text b s t v ≡ []
    unfolding link_text
    link_later e z = ap (λ (y : Bool). cond y (from_text v (rule_wave_of v s t)) []) (sym (order v b lv lb) ∙ sym e ∙ z)

    pub link_earlier : {x : Bool} → x ≡ by_cells s.degrees s.ranks v b → x ≡ true → link_text b s t v ≡ from_text v (rule_wave_of v s t)
    unfolding link_text
    link_earlier e z = ap (λ (y : Bool). cond y (from_text v (rule_wave_of v s t)) []) (sym (order v b lv lb) ∙ sym e ∙ z)

-- link by link
module _ (b : ℕ) (s : Slices) (t : Tally) (vs : List ℕ) where
  pub links_none : links_text b s t (take 0 vs) ≡ []
  unfolding links_text joined
  links_none = refl

  pub links_next : (i : ℕ) → i < length vs → links_text b s t (take (i + 1) vs) ≡ links_text b s t (take i vs) ++ link_text b s t (get_or vs i 0)
  unfolding links_text joined
  links_next i l =
      ap (λ (l : List ℕ). joined (map (link_text b s t) l)) (take_next i vs l) ∙ texts_append (link_text b s t) (take i vs) (get_or vs i 0 ∷ [])
      ∙ ap (λ (l : List ℕ). joined (map (link_text b s t) (take i vs)) ++ l) (append-nil (link_text b s t (get_or vs i 0)))

-- the line, by the number
module _ (b : ℕ) (s : Slices) (t : Tally) where
  line_by-law : (c : ℕ) → c ≡ direct_number b s t → line_by c b s t ≡ line_of b s t
  unfolding line_of
  line_by-law c e = ap (λ (x : ℕ). line_by x b s t) e

  pub line_refused : (c : ℕ) → c ≡ direct_number b s t → c ≢ 0 → refused_text (66 ∷ 65 ∷ 78 ∷ 75 ∷ 32 ∷ []) b c ≡ line_of b s t
  line_refused zero e n = absurd (n refl)
  line_refused (suc c) e n = unfold line_by in line_by-law (suc c) e

  pub line_fine : 0 ≡ direct_number b s t
      → head_text b (wave_of b s t) (rule_wave_of b s t) ++ (links_text b s t (clashes_of b s t) ++ (10 ∷ [])) ≡ line_of b s t
  line_fine e = unfold line_by in line_by-law 0 e

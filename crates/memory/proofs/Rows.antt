-- A row that is right is the list of the banks that it names, and the other way.
use mathlib.Core.List.{List}
use mathlib.Core.Logic.{inl, inr}
use mathlib.Core.Path.{◌≡◌, sym, ap, ap₂, ◌∙◌, subst}
use Prim.Native.Nat.{ℕ, zero, suc, ◌+◌, ◌*◌, ◌-◌, ◌≤◌, ◌<◌}
use native.Mathlib.Nat.{mul_comm, mul-suc, mul-le-mul_left, add-sub_cancel_left}
use native.Mathlib.Omega.{arith}
use lib.Dec.{T, ltb}
use lib.ListN.{length, get_or, take, drop, length-take, length-drop, get_or-eq_default}
use lib.Seq.{get_or-take, get_or-drop, length-take-le}
use Rattle.rule.specs.Lists.{memb, Sorted}
use Rattle.rule.specs.Graph.{Graph, neighbours, degree}
use Rattle.rule.proofs.Booleans.{test_ext, lt_or_ge}
use Rattle.rule.proofs.Order.{ltb_strict}
use Rattle.rule.proofs.Sorting.{sorted_unique}
use Rattle.rule.proofs.Neighbours.{degree_length, neighbours_in, in_neighbours, neighbours_sorted}
use Rattle.memory.specs.inner.Counts.{Countable}
use Rattle.memory.specs.inner.View.{Rowed}
use Rattle.memory.specs.inner.Test.{row, RowRight, Rows, WavesSmall}
use Rattle.memory.proofs.Fronts.{get_d_any, in_cell, cell_of, in_take, in_front}
use Rattle.memory.proofs.Ascending.{sorted_by, sorted_at, climbs, sorted_fits}

-- the cells of bank b in a table of w cells for each bank
module _ (w : ℕ) (xs : List ℕ) (b : ℕ) where
  pub group_at : (i : ℕ) → i < w → get_or (take w (drop (w * b) xs)) i 0 ≡ get_or xs (b * w + i) 0
  group_at i h =
      get_or-take w (drop (w * b) xs) i 0 h ∙ get_or-drop (w * b) xs i 0 ∙ ap (λ (k : ℕ). get_or xs (k + i) 0) (mul_comm w b)

  pub length_group : (n : ℕ) → b < n → w * n ≤ length xs → length (take w (drop (w * b) xs)) ≡ w
  length_group n h l =
      let k : w * suc b ≤ w * n = mul-le-mul_left w h in
      length-take-le w (drop (w * b) xs) (omega (arith, length-drop (w * b) xs, mul-suc w b))

  -- as the code lends them
  pub group_lent : take (b * w + w - b * w) (drop (b * w) xs) ≡ take w (drop (w * b) xs)
  group_lent = ap₂ (λ (m k : ℕ). take m (drop k xs)) (add-sub_cancel_left (b * w) w) (mul_comm b w)

-- the clashes that the rows of n banks name, and the ranks: `graph_in`, opened
abbrev pub in_rows : ℕ → List ℕ → List ℕ → Graph
in_rows n ns rs = record { banks = n; clash = λ x y. memb y (row ns x); rank = λ x. get_or rs x 0 }

-- a row has 23 cells, so no bank has more neighbours
pub few_named : (n : ℕ) (ns rs : List ℕ) (b : ℕ) → degree (in_rows n ns rs) b ≤ 23
few_named n ns rs b =
    let K = in_rows n ns rs in
    omega (
      arith,
      degree_length K b,
      sorted_fits (neighbours K b) (row ns b) (neighbours_sorted K b) (λ x m. (neighbours_in K b x m).1),
      length-take 23 (drop (23 * b) ns),
    )

module _ {ns ds : List ℕ} {n : ℕ} (rows : Rows ns ds n) (b : ℕ) (hb : b < n) where
  abbrev r : List ℕ
  r = row ns b

  abbrev d : ℕ
  d = get_or ds b 0

  abbrev K : List ℕ → Graph
  K = in_rows n ns

  right : RowRight r d n b
  right = rows.right b hb

  pub long_row : length r ≡ 23
  long_row = length_group 23 ns b n hb rows.long_neighbours

  length_filled : length (take d r) ≡ d
  length_filled = length-take-le d r (omega (arith, long_row, right.few))

  -- each cell that names a bank is larger than those before it
  pub larger : (i j : ℕ) → i < j → j < d → get_or r i 0 < get_or r j 0
  larger = climbs r d (λ q p s. (right.named q s).larger p)

  sorted_filled : Sorted ltb (take d r)
  sorted_filled =
      sorted_by (take d r) (λ i j l h.
      let k : j < d = omega (arith, length_filled) in
      let m : i < d = omega arith in
      rw (get_or-take d r i 0 m, get_or-take d r j 0 k) (larger i j l k))

  filled_bank : (y : ℕ) → T (memb y (take d r)) → y < n
  filled_bank y m =
      let p = cell_of (take d r) y m in
      let k : p.0 < d = omega (arith, length_filled) in
      omega (arith, (right.named p.0 k).bank, get_or-take d r p.0 0 k, p.2)

  in_filled : (y : ℕ) → y < n → T (memb y r) → T (memb y (take d r))
  in_filled y h m =
      let p = cell_of r y m in
      elim (lt_or_ge p.0 d) [
        | inl l ↦ subst (λ (k : ℕ). T (memb k (take d r))) p.2 (in_front d p.0 r l (omega (arith, long_row, right.few)))
        | inr g ↦ absurd (omega (arith, right.rest p.0 (omega (arith, long_row)) g, p.2, rows.most))
      ]

  -- the banks below n that the row names stand in its filled part
  pub filled_members : (y : ℕ) → y < n → memb y (take d r) ≡ memb y r
  filled_members y h = test_ext (memb y (take d r)) (memb y r) (in_take d r y) (in_filled y h)

  filled_is : (rs : List ℕ) → take d r ≡ neighbours (K rs) b
  filled_is rs =
      sorted_unique ltb ltb_strict (take d r) (neighbours (K rs) b) sorted_filled (neighbours_sorted (K rs) b) (λ y.
      test_ext (memb y (take d r)) (memb y (neighbours (K rs) b))
      (λ m. in_neighbours (K rs) b y (filled_bank y m) (in_take d r y m))
      (λ m. let p = neighbours_in (K rs) b y m in in_filled y p.0 p.1))

  pub degree_is : (rs : List ℕ) → d ≡ degree (K rs) b
  degree_is rs = sym length_filled ∙ ap length (filled_is rs) ∙ sym (degree_length (K rs) b)

  pub cells_are : (rs : List ℕ) (i : ℕ) → i < 23 → get_or r i 0 ≡ get_or (neighbours (K rs) b) i 65535
  cells_are rs i h =
      elim (lt_or_ge i d) [
        | inl l ↦ sym (get_or-take d r i 0 l) ∙ get_d_any (take d r) i 0 65535 (omega (arith, length_filled)) ∙ ap (λ (l : List ℕ). get_or l i 65535) (filled_is rs)
        | inr g ↦ right.rest i h g ∙ sym (get_or-eq_default (neighbours (K rs) b) 65535 {n = i} (omega (arith, degree_is rs, degree_length (K rs) b)))
      ]

  pub not_itself : T (memb b r) → ⊥
  not_itself m =
      let p = cell_of (take d r) b (in_filled b hb m) in
      let k : p.0 < d = omega (arith, length_filled) in
      (right.named p.0 k).other (sym (get_or-take d r p.0 0 k) ∙ p.2)

-- so rows that are right show the clashes that they name, if these go both ways
pub rowed : {ns ds : List ℕ} (rs : List ℕ) {n : ℕ} → Rows ns ds n → ((x y : ℕ) → x < n → y < n → memb y (row ns x) ≡ memb x (row ns y)) → Rowed (in_rows n ns rs) ns ds
rowed {ns} {ds} rs {n} rows symmetric = record {
  few = rows.most;
  wide_rows = omega (arith, rows.long_neighbours);
  wide_degrees = rows.long_degrees;
  degrees = λ b h. degree_is rows b h rs;
  small = λ b h. few_named n ns rs b;
  rows = λ b i h k. sym (group_at 23 ns b i k) ∙ cells_are rows b h rs i k;
  symmetric = symmetric;
  apart = λ x h. not_itself rows x h;
}

-- and let each bank be counted
pub rows_countable : {ns ds rs ws : List ℕ} {n b : ℕ} → Rows ns ds n → n ≤ length rs → WavesSmall ws n → b < n → Countable ns ds rs ws n b
rows_countable {ns} {ds} {rs} {ws} {n} {b} rows ranks waves h =
    let right = rows.right b h in
    record {
      most = rows.most;
      bank = h;
      long_neighbours = omega (arith, rows.long_neighbours);
      long_degrees = rows.long_degrees;
      long_ranks = ranks;
      long_waves = waves.long;
      few = right.few;
      named = λ i l. rw (sym (group_at 23 ns b i (omega (arith, right.few)))) (right.named i l).bank;
      small = waves.small;
    }

-- rows that show clashes name them
module _ {G : Graph} {ns ds : List ℕ} (rd : Rowed G ns ds) (x : ℕ) (hx : x < G.banks) where
  abbrev N : List ℕ
  N = neighbours G x

  length_row : length (row ns x) ≡ 23
  length_row = length_group 23 ns x G.banks hx (omega (arith, rd.wide_rows))

  length_named : length N ≤ 23
  length_named = omega (arith, rd.small x hx, degree_length G x)

  pub row_cell : (i : ℕ) → i < 23 → get_or (row ns x) i 0 ≡ get_or N i 65535
  row_cell i h = group_at 23 ns x i h ∙ rd.rows x i hx h

  named_in : (i : ℕ) → i < length N → T (memb (get_or (row ns x) i 0) N)
  named_in i l =
      let e : get_or (row ns x) i 0 ≡ get_or N i 0 = row_cell i (omega (arith, length_named)) ∙ get_d_any N i 65535 0 l in
      rw e (in_cell i N l)

  row_clash : (y : ℕ) → y < G.banks → T (memb y (row ns x)) → T (G.clash x y)
  row_clash y hy m =
      let q = cell_of (row ns x) y m in
      let k : q.0 < 23 = omega (arith, length_row) in
      elim (lt_or_ge q.0 (length N)) [
        | inl l ↦ (neighbours_in G x y (subst (λ (z : ℕ). T (memb z N)) q.2 (named_in q.0 l))).1
        | inr g ↦ absurd (omega (arith, row_cell q.0 k, q.2, get_or-eq_default N 65535 {n = q.0} g, rd.few))
      ]

  clash_row : (y : ℕ) → y < G.banks → T (G.clash x y) → T (memb y (row ns x))
  clash_row y hy c =
      let q = cell_of N y (in_neighbours G x y hy c) in
      let k : q.0 < 23 = omega (arith, length_named) in
      let e : get_or (row ns x) q.0 0 ≡ y = row_cell q.0 k ∙ get_d_any N q.0 65535 0 q.1 ∙ q.2 in
      subst (λ (z : ℕ). T (memb z (row ns x))) e (in_cell q.0 (row ns x) (omega (arith, length_row)))

  pub row_names : (y : ℕ) → y < G.banks → memb y (row ns x) ≡ G.clash x y
  row_names y hy = test_ext (memb y (row ns x)) (G.clash x y) (row_clash y hy) (clash_row y hy)

  -- and are right
  row_larger : (i : ℕ) → i < length N → 0 < i → get_or (row ns x) (i - 1) 0 < get_or (row ns x) i 0
  row_larger zero h l = absurd (omega arith)
  row_larger (suc i) h l =
      let p : suc i - 1 ≡ i = omega arith in
      rw p (omega (arith, sorted_at N (neighbours_sorted G x) i 65535 h, row_cell i (omega (arith, length_named)), row_cell (suc i) (omega (arith, length_named))))

  pub row_right-law : RowRight (row ns x) (get_or ds x 0) G.banks x
  row_right-law =
      let e : get_or ds x 0 ≡ length N = rd.degrees x hx ∙ degree_length G x in
      record {
        few = omega (arith, length_named);
        named = λ i h.
            let l : i < length N = omega arith in
            let m = neighbours_in G x (get_or (row ns x) i 0) (named_in i l) in
            record { bank = m.0; other = λ q. rd.apart x hx (subst (λ (k : ℕ). T (G.clash x k)) q m.1); larger = row_larger i l };
        rest = λ i h g. row_cell i h ∙ get_or-eq_default N 65535 {n = i} (omega arith);
      }

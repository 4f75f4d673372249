-- Counting the earlier neighbours of a bank by their waves, and what it counts.
use mathlib.Core.Bool.{Bool, true, false, not}
use mathlib.Core.List.{List, [], ◌∷◌, ◌++◌}
use mathlib.Core.Logic.{◌≢◌}
use mathlib.Core.Path.{◌≡◌, sym, ap, ◌∙◌}
use Prim.Native.Nat.{ℕ, ◌+◌, ◌-◌, ◌*◌, ◌≤◌, ◌<◌}
use native.Mathlib.Decide.{ℕ_discrete}
use native.Mathlib.Omega.{arith}
use lib.ListN.{length, get_or, set, take, drop, length-set, length-take, length-drop, replicate, length-replicate, get_or-replicate}
use mir.Val.{bool_byte}
use Rattle.std.proofs.Common.{add-zero}
use lib.Seq.{set-get_or, get_or-take, get_or-drop, get_or-set_same, get_or-set_other, length-take-le, ext_get_or}
use Rattle.rule.specs.Lists.{filter}
use Rattle.rule.specs.Graph.{Graph, neighbours, degree, earlier, earlier_neighbours}
use Rattle.rule.proofs.Booleans.{t_along}
use Rattle.rule.proofs.Lists.{filter_cong, filter_short, filter_kept, filter_left}
use Rattle.rule.proofs.Neighbours.{degree_length, neighbours_in, earlier_ones}
use Rattle.rule.proofs.Order.{strict_flip, keyed_strict}
use Rattle.memory.specs.inner.Counts.{by_cells, standing, count_in, Countable, Tallied, grown}
use Rattle.memory.specs.inner.View.{Ranked, Shown, Rowed}
use Rattle.memory.specs.inner.Test.{part, counts_of}
use Rattle.memory.proofs.Fronts.{take_next, get_d_any, in_cell}
use Rattle.memory.proofs.Rows.{group_at, length_group}
use Rattle.memory.proofs.Standing.{bit_yes, bit_no, standing_snoc, standing_le}

pub bit_small : (e : Bool) → bool_byte e ≤ 1
bit_small true = omega arith
bit_small false = omega arith

pub count_none : {row : List ℕ} (ds rs ws : List ℕ) (b : ℕ) → Tallied row (λ c. 0) → Tallied row (count_in ds rs ws b [])
unfolding standing filter
count_none ds rs ws b t = record { long = t.long; counts = t.counts }

-- one more bank is counted, by its wave w
pub one_counted : (f : ℕ → ℕ) (xs : List ℕ) {row : List ℕ} → Tallied row (λ c. standing f c xs) → (v : ℕ) {w : ℕ} → w ≡ f v → w < 24
    → Tallied (grown row w) (λ c. standing f c (xs ++ (v ∷ [])))
one_counted f xs {row} tl v {w} is small = record {
  long = length-set row w (get_or row w 0 + 1) ∙ tl.long;
  counts = λ c h. cell c h (ℕ_discrete c w);
}
  where
    cell : (c : ℕ) → c < 24 → Dec (c ≡ w) → get_or (grown row w) c 0 ≡ standing f c (xs ++ (v ∷ []))
    cell c h (yes q) =
        rw q (omega (
          arith,
          get_or-set_same row w (get_or row w 0 + 1) 0 (omega (arith, tl.long)),
          tl.counts w small,
          standing_snoc f w xs v,
          bit_yes (f v) w (sym is),
        ))
    cell c h (no q) =
        omega (arith, get_or-set_other row w c (get_or row w 0 + 1) 0 q, tl.counts c h, standing_snoc f c xs v, bit_no (f v) c (λ p. q (sym p ∙ sym is)))

-- the bank v in cell i of b's row
module _ {ns ds rs ws : List ℕ} {n b i : ℕ} (ct : Countable ns ds rs ws n b) (lt : i < get_or ds b 0) where
  abbrev xs : List ℕ
  xs = drop (b * 23) ns

  abbrev v : ℕ
  v = get_or ns (b * 23 + i) 0

  pub in_row : b * 23 + i < length ns
  in_row = omega (arith, ct.bank, ct.few, ct.long_neighbours)

  pub v_bank : v < n
  v_bank = ct.named i lt

  pub v_small : get_or ws v 0 < 24
  v_small = ct.small v v_bank

  -- it is the i-th of the row's filled part
  pub in_part : get_or (take (b * 23 + get_or ds b 0 - b * 23) xs) i 0 ≡ v
  in_part = get_or-take (b * 23 + get_or ds b 0 - b * 23) xs i 0 (omega arith) ∙ get_or-drop (b * 23) ns i 0

  next : take (i + 1) xs ≡ take i xs ++ (v ∷ [])
  next = take_next i xs (omega (arith, length-drop (b * 23) ns, in_row)) ∙ ap (λ (k : ℕ). take i xs ++ (k ∷ [])) (get_or-drop (b * 23) ns i 0)

  module _ {row : List ℕ} (tl : Tallied row (count_in ds rs ws b (take i xs))) where
    abbrev sooner : ℕ → Bool
    sooner u = by_cells ds rs u b

    abbrev wave_of-law : ℕ → ℕ
    wave_of-law u = get_or ws u 0

    pub count_few : (c : ℕ) → c < 24 → get_or row c 0 < 24
    count_few c h =
        omega (arith, tl.counts c h, standing_le wave_of-law c (filter sooner (take i xs)), filter_short sooner (take i xs), length-take i xs, ct.few)

    pub skipped : by_cells ds rs v b ≡ false → Tallied row (count_in ds rs ws b (take (i + 1) xs))
    skipped e = record {
      long = tl.long;
      counts = λ c h. tl.counts c h ∙ ap (standing wave_of-law c) (sym (ap (filter sooner) next ∙ filter_left sooner (take i xs) v (λ t. t_along e t)));
    }

    pub counted : by_cells ds rs v b ≡ true → {w : ℕ} → w ≡ get_or ws v 0 → Tallied (set row w (get_or row w 0 + 1)) (count_in ds rs ws b (take (i + 1) xs))
    counted e {w} is =
        let one = one_counted wave_of-law (filter sooner (take i xs)) tl v is (omega (arith, v_small)) in
        record {
          long = one.long;
          counts = λ c h. one.counts c h ∙ ap (standing wave_of-law c) (sym (ap (filter sooner) next ∙ filter_kept sooner (take i xs) v (t_along (sym e) tt)));
        }

    pub counted_if : (e : Bool) → by_cells ds rs v b ≡ e → {w : ℕ} → w ≡ get_or ws v 0
        → Tallied (set row w (get_or row w 0 + bool_byte e)) (count_in ds rs ws b (take (i + 1) xs))
    counted_if true q is = counted q is
    counted_if false q {w} is = rw (add-zero, set-get_or row w 0) (skipped q)

-- of two banks, one is earlier
pub cells_flip : (ds rs : List ℕ) (p q : ℕ) → p ≢ q → by_cells ds rs p q ≡ not (by_cells ds rs q p)
unfolding by_cells
cells_flip ds rs = strict_flip (by_cells ds rs) (keyed_strict (λ x. get_or ds x 0) (λ x. get_or rs x 0))

-- the parts of cells that count for every bank
long_part : (cells : List ℕ) (x : ℕ) → length cells ≡ 24576 → x < 1024 → length (part cells x) ≡ 24
long_part cells x l h = length_group 24 cells x 1024 h (omega arith)

pub part_of_zeros : (x : ℕ) → x < 1024 → Tallied (part (replicate 24576 0) x) (λ c. 0)
part_of_zeros x h = record {
  long = long_part (replicate 24576 0) x (length-replicate {A = ℕ} 24576 0) h;
  counts = λ c k. group_at 24 (replicate 24576 0) x c k ∙ get_or-replicate {A = ℕ} 24576 (x * 24 + c) 0 0 (omega arith);
}

-- after one more in cell w of the part of q
module _ (cells : List ℕ) (x : ℕ) where
  pub part_same : (q w : ℕ) → length cells ≡ 24576 → x < 1024 → w < 24 → x ≢ q → part (grown cells (q * 24 + w)) x ≡ part cells x
  part_same q w l h k n =
      let cells' = grown cells (q * 24 + w) in
      let l' : length cells' ≡ 24576 = length-set cells (q * 24 + w) (get_or cells (q * 24 + w) 0 + 1) ∙ l in
      ext_get_or 0 (part cells' x) (part cells x) (long_part cells' x l' h ∙ sym (long_part cells x l h)) (λ c s.
      let t : c < 24 = omega (arith, long_part cells' x l' h) in
      group_at 24 cells' x c t ∙ get_or-set_other cells (q * 24 + w) (x * 24 + c) (get_or cells (q * 24 + w) 0 + 1) 0 (λ e. n (omega arith))
      ∙ sym (group_at 24 cells x c t))

  pub part_grown : (w : ℕ) → length cells ≡ 24576 → x < 1024 → w < 24 → part (grown cells (x * 24 + w)) x ≡ grown (part cells x) w
  part_grown w l h k =
      ext_get_or 0 (part cells' x) (grown (part cells x) w)
      (long_part cells' x l' h ∙ sym (length-set (part cells x) w (get_or (part cells x) w 0 + 1) ∙ long_part cells x l h)) (λ c s.
      let t : c < 24 = omega (arith, long_part cells' x l' h) in
      group_at 24 cells' x c t ∙ cell c t (ℕ_discrete c w))
    where
      cells' : List ℕ
      cells' = grown cells (x * 24 + w)

      l' : length cells' ≡ 24576
      l' = length-set cells (x * 24 + w) (get_or cells (x * 24 + w) 0 + 1) ∙ l

      cell : (c : ℕ) → c < 24 → Dec (c ≡ w) → get_or cells' (x * 24 + c) 0 ≡ get_or (grown (part cells x) w) c 0
      cell c t (yes e) =
          rw e (get_or-set_same cells (x * 24 + w) (get_or cells (x * 24 + w) 0 + 1) 0 (omega arith)
          ∙ sym (get_or-set_same (part cells x) w (get_or (part cells x) w 0 + 1) 0 (omega (arith, long_part cells x l h)) ∙ ap (λ (k : ℕ). k + 1) (group_at 24 cells x w k)))
      cell c t (no d) =
          get_or-set_other cells (x * 24 + w) (x * 24 + c) (get_or cells (x * 24 + w) 0 + 1) 0 (λ e. d (omega arith))
          ∙ sym (get_or-set_other (part cells x) w c (get_or (part cells x) w 0 + 1) 0 d ∙ group_at 24 cells x c t)

-- rows, degrees and ranks that show a plan give its order and its earlier neighbours
pub shown : {G : Graph} {ns ds rs : List ℕ} → Rowed G ns ds → Ranked G rs → Shown G ns ds rs
shown {G} {ns} {ds} {rs} rd rk = record {
  ranked = rk;
  few = rd.few;
  wide_rows = rd.wide_rows;
  wide_degrees = rd.wide_degrees;
  degrees = rd.degrees;
  small = rd.small;
  rows = λ b i h l. rd.rows b i h (omega (arith, rd.small b h)) ∙ get_d_any (neighbours G b) i 65535 0 (omega (arith, degree_length G b));
  symmetric = rd.symmetric;
}

module _ {G : Graph} {ns ds rs : List ℕ} (sh : Shown G ns ds rs) where
  pub cells_earlier : (p q : ℕ) → p < G.banks → q < G.banks → by_cells ds rs p q ≡ earlier G p q
  unfolding by_cells earlier
  cells_earlier p q hp hq = let dp = sh.degrees p hp in let dq = sh.degrees q hq in let rp = sh.ranked.cells p hp in let rq = sh.ranked.cells q hq in cc

  filled_row : (b : ℕ) → b < G.banks → take (get_or ds b 0) (drop (b * 23) ns) ≡ neighbours G b
  filled_row b h =
      let d : get_or ds b 0 ≡ length (neighbours G b) = sh.degrees b h ∙ degree_length G b in
      let l : length (take (get_or ds b 0) (drop (b * 23) ns)) ≡ get_or ds b 0 =
      length-take-le (get_or ds b 0) (drop (b * 23) ns) (omega (arith, length-drop (b * 23) ns, sh.wide_rows, sh.small b h, sh.degrees b h)) in
      ext_get_or 0 (take (get_or ds b 0) (drop (b * 23) ns)) (neighbours G b) (omega arith) (λ i k.
      get_or-take (get_or ds b 0) (drop (b * 23) ns) i 0 (omega arith) ∙ get_or-drop (b * 23) ns i 0 ∙ sh.rows b i h (omega (arith, degree_length G b)))

  -- what is counted for b
  pub counts_are : (ws : List ℕ) (b c : ℕ) → b < G.banks → counts_of ns ds rs ws b c ≡ standing (λ v. get_or ws v 0) c (earlier_neighbours G b)
  counts_are ws b c h =
      ap (standing (λ v. get_or ws v 0) c)
      (ap (filter (λ v. by_cells ds rs v b)) (filled_row b h)
      ∙ filter_cong (λ v. by_cells ds rs v b) (λ v. earlier G v b) (neighbours G b) (λ v m. cells_earlier v b (neighbours_in G b v m).0 h)
      ∙ earlier_ones G b)

  -- and it can be counted
  pub countable : {ws : List ℕ} {n b : ℕ} → n ≡ G.banks → n ≤ length ws → ((x : ℕ) → x < n → get_or ws x 0 < 24) → b < n → Countable ns ds rs ws n b
  countable {ws} {n} {b} e wide small h =
      let k : b < G.banks = omega arith in
      record {
        most = omega (arith, sh.few);
        bank = h;
        long_neighbours = omega (arith, sh.wide_rows);
        long_degrees = omega (arith, sh.wide_degrees);
        long_ranks = omega (arith, sh.ranked.wide);
        long_waves = wide;
        few = omega (arith, sh.degrees b k, sh.small b k);
        named = λ i l.
            let j : i < degree G b = omega (arith, sh.degrees b k) in
            let m : i < length (neighbours G b) = omega (arith, degree_length G b) in
            rw (sh.rows b i k j, e) (neighbours_in G b (get_or (neighbours G b) i 0) (in_cell i (neighbours G b) m)).0;
        small = small;
      }

-- The pass over the rows, bank by bank, and what it finds.
use mathlib.Core.Bool.{Bool, true, false}
use mathlib.Core.List.{List, [], ◌∷◌, ◌++◌}
use mathlib.Core.Path.{◌≡◌, refl, sym, ap, subst, ◌∙◌}
use Prim.Native.Nat.{ℕ, zero, suc, ◌+◌, ◌*◌, ◌-◌, ◌≤◌, ◌<◌}
use native.Mathlib.Numerals.{add-one}
use native.Mathlib.Omega.{arith}
use lib.Dec.{T, eqb}
use lib.ListN.{length, get_or, take, drop, length-drop, drop_of_length-le}
use lib.Seq.{drop-cons, length-take-le, get_or-take, get_or-drop}
use borrow.Author.Tests.{eq-eqb, ne_eqb}
use Rattle.rule.specs.Lists.{upto, memb, some}
use Rattle.rule.specs.Graph.{Graph, neighbours, degree}
use Rattle.rule.proofs.Booleans.{is_true, is_false, t_along}
use Rattle.rule.proofs.Lists.{in_head, in_tail, in_upto, upto_below, filter_in, some_in}
use Rattle.memory.specs.Plan.{graph_in}
use Rattle.memory.specs.inner.View.{Rowed}
use Rattle.sheet_reader.specs.Calls.{has_clash, any_clash, first_of, clash_first, clash_second}
use Rattle.sheet_reader.specs.inner.Rows.{rows_in, PartnerOf, PairOf}
use Rattle.sheet_parser.proofs.Tests.{not_both}
use Rattle.sheet_parser.proofs.Decision.{upto_at}

-- the first i of the list do not pass
pub record Scanned (p : ℕ → Bool) (xs : List ℕ) (i : ℕ) : Type 0 where
  pub some_is : some p xs ≡ some p (drop i xs)
  pub first_is : first_of p xs ≡ first_of p (drop i xs)

module _ (p : ℕ → Bool) (xs : List ℕ) where
  pub scan_start : Scanned p xs 0
  scan_start = record { some_is = refl; first_is = refl }

  module _ (i : ℕ) (d : ℕ) (so : Scanned p xs i) where
    pub scan_next : i < length xs → p (get_or xs i d) ≡ false → Scanned p xs (i + 1)
    unfolding some first_of
    scan_next h e = rw (add-one i) (record {
      some_is = so.some_is ∙ rw (drop-cons xs i d h, e);
      first_is = so.first_is ∙ rw (drop-cons xs i d h, e);
    })

    pub scan_hit : i < length xs → p (get_or xs i d) ≡ true → (true ≡ some p xs) × (get_or xs i d ≡ first_of p xs)
    unfolding some first_of
    scan_hit h e = (sym (so.some_is ∙ rw (drop-cons xs i d h, e)), sym (so.first_is ∙ rw (drop-cons xs i d h, e)))

  pub scan_end : (i : ℕ) → Scanned p xs i → length xs ≤ i → false ≡ some p xs
  unfolding some
  scan_end i so h = sym (so.some_is ∙ rw (drop_of_length-le xs h))

in_at : (xs : List ℕ) (i d : ℕ) → i < length xs → T (memb (get_or xs i d) xs)
in_at [] i d h = absurd (omega arith)
in_at (x ∷ xs) zero d h = in_head x x xs refl
in_at (x ∷ xs) (suc i) d h = in_tail (get_or xs i d) x xs (in_at xs i d (omega arith))

pub neighbour_below : (G : Graph) (b v : ℕ) → T (memb v (neighbours G b)) → v < G.banks
unfolding neighbours
neighbour_below G b v m = upto_below G.banks v (filter_in (G.clash b) (upto G.banks) v m).0

-- the row of bank b
module _ {ns ds : List ℕ} {n : ℕ} (rows : Rowed (rows_in n ns) ns ds) where
  pub banks_are : (rows_in n ns).banks ≡ n
  unfolding graph_in
  banks_are = refl

  module _ {b : ℕ} (h : b < n) where
    inside : b < (rows_in n ns).banks
    inside = omega (arith, banks_are)

    pub row_length : get_or ds b 0 ≡ length (neighbours (rows_in n ns) b)
    unfolding degree
    row_length = rows.degrees b inside

    pub row_few : get_or ds b 0 ≤ 23
    row_few = omega (arith, rows.degrees b inside, rows.small b inside)

    pub row_cells : n * 23 ≤ length ns
    row_cells = rw (sym banks_are) rows.wide_rows

    pub row_degrees : n ≤ length ds
    row_degrees = rw (sym banks_are) rows.wide_degrees

    pub row_most : n ≤ 1024
    row_most = rw (sym banks_are) rows.few

    module _ {i : ℕ} (l : i < get_or ds b 0) where
      pub cell_is : get_or ns (b * 23 + i) 0 ≡ get_or (neighbours (rows_in n ns) b) i 65535
      cell_is = rows.rows b i inside (omega (arith, row_few))

      pub cell_bank : get_or ns (b * 23 + i) 0 < n
      cell_bank =
          let xs : List ℕ = neighbours (rows_in n ns) b in
          omega (arith, cell_is, neighbour_below (rows_in n ns) b (get_or xs i 65535) (in_at xs i 65535 (omega (arith, row_length))), banks_are)

    -- the test of a neighbour
    abbrev test : (ℕ → ℕ) → ℕ → Bool
    test w v = eqb (w v) (w b)

    module _ (w : ℕ → ℕ) {i : ℕ} (so : Scanned (λ v. eqb (w v) (w b)) (neighbours (rows_in n ns) b) i) where
      pub partner_next : i < get_or ds b 0 → (w (get_or ns (b * 23 + i) 0) ≡ w b → ⊥) → Scanned (λ v. eqb (w v) (w b)) (neighbours (rows_in n ns) b) (i + 1)
      partner_next l other =
          let xs : List ℕ = neighbours (rows_in n ns) b in
          scan_next (test w) xs i 65535 so (omega (arith, row_length))
          (ne_eqb (w (get_or xs i 65535)) (w b) (subst (λ (v : ℕ). w v ≡ w b → ⊥) (cell_is l) other))

      pub partner_hit : i < get_or ds b 0 → w (get_or ns (b * 23 + i) 0) ≡ w b → PartnerOf (rows_in n ns) w b (get_or ns (b * 23 + i) 0)
      unfolding has_clash
      partner_hit l same =
          let xs : List ℕ = neighbours (rows_in n ns) b in
          let r = scan_hit (test w) xs i 65535 so (omega (arith, row_length))
          (eq-eqb (w (get_or xs i 65535)) (w b) (subst (λ (v : ℕ). w v ≡ w b) (cell_is l) same)) in
          record { clash = sym r.0; bank_is = cell_is l ∙ r.1 }

      pub partner_none : get_or ds b 0 ≤ i → has_clash (rows_in n ns) w b ≡ false
      unfolding has_clash
      partner_none l = sym (scan_end (test w) (neighbours (rows_in n ns) b) i so (omega (arith, row_length)))

-- the same row as a slice that the code takes, from `at` * 23 on
module _ {ns ds : List ℕ} {n : ℕ} (rows : Rowed (rows_in n ns) ns ds) {b at d : ℕ} (h : b < n) (at-is : at ≡ b) (d-is : d ≡ get_or ds at 0) where
  degree_is : d ≡ get_or ds b 0
  degree_is = d-is ∙ ap (λ (k : ℕ). get_or ds k 0) at-is

  pub row_inside : at * 23 + d ≤ length ns
  row_inside = omega (arith, at-is, degree_is, row_few rows h, row_cells rows h)

  pub part_length : length (take (at * 23 + d - at * 23) (drop (at * 23) ns)) ≡ get_or ds b 0
  part_length =
      length-take-le (at * 23 + d - at * 23) (drop (at * 23) ns) (omega (arith, length-drop (at * 23) ns, row_inside)) ∙ omega (arith, degree_is)

  pub part_cell : {i : ℕ} → i < length (take (at * 23 + d - at * 23) (drop (at * 23) ns))
      → get_or (take (at * 23 + d - at * 23) (drop (at * 23) ns)) i 0 ≡ get_or ns (b * 23 + i) 0
  part_cell {i} l =
      get_or-take (at * 23 + d - at * 23) (drop (at * 23) ns) i 0 (omega (arith, part_length, degree_is))
      ∙ get_or-drop (at * 23) ns i 0 ∙ ap (λ (k : ℕ). get_or ns (k * 23 + i) 0) at-is

-- the first that passes
first_skip : (p : ℕ → Bool) (xs ys : List ℕ) → ((x : ℕ) → T (memb x xs) → p x ≡ false) → first_of p (xs ++ ys) ≡ first_of p ys
unfolding first_of
first_skip p [] ys h = refl
first_skip p (x ∷ xs) ys h = rw (h x (in_head x x xs refl)) (first_skip p xs ys (λ y m. h y (in_tail y x xs m)))

pub first_none : (p : ℕ → Bool) (xs : List ℕ) → ((x : ℕ) → T (memb x xs) → p x ≡ false) → first_of p xs ≡ 0
unfolding first_of
first_none p [] h = refl
first_none p (x ∷ xs) h = rw (h x (in_head x x xs refl)) (first_none p xs (λ y m. h y (in_tail y x xs m)))

none_some : (p : ℕ → Bool) (xs : List ℕ) → ((x : ℕ) → T (memb x xs) → p x ≡ false) → some p xs ≡ false
unfolding some
none_some p [] h = refl
none_some p (x ∷ xs) h = rw (h x (in_head x x xs refl)) (none_some p xs (λ y m. h y (in_tail y x xs m)))

first_here : (p : ℕ → Bool) (x : ℕ) (xs : List ℕ) → p x ≡ true → first_of p (x ∷ xs) ≡ x
unfolding first_of
first_here p x xs e = rw e

-- all banks
module _ (G : Graph) (w : ℕ → ℕ) where
  pub first_found : (b : ℕ) → b < G.banks → ((x : ℕ) → x < b → has_clash G w x ≡ false) → has_clash G w b ≡ true → clash_first G w ≡ b
  unfolding clash_first
  first_found b h none e =
      let r = upto_at b G.banks h in
      ap (first_of (has_clash G w)) r.1 ∙ first_skip (has_clash G w) (upto b) (b ∷ r.0) (λ x m. none x (upto_below b x m)) ∙ first_here (has_clash G w) b r.0 e

  pub pair_found : {b v : ℕ} → b < G.banks → ((x : ℕ) → x < b → has_clash G w x ≡ false) → PartnerOf G w b v → PairOf G w b v
  unfolding any_clash clash_second
  pair_found {b} {v} h none p =
      let first = first_found b h none p.clash in
      record {
        clash = (is_true (some (has_clash G w) (upto G.banks)) (some_in (has_clash G w) (upto G.banks) b (in_upto G.banks b h) (t_along (sym p.clash) tt)));
        first_is = sym first;
        second_is = p.bank_is ∙ ap (λ (x : ℕ). first_of (λ v. eqb (w v) (w x)) (neighbours G x)) (sym first);
      }

  no_partner : (x : ℕ) → has_clash G w x ≡ false → (v : ℕ) → T (memb v (neighbours G x)) → eqb (w v) (w x) ≡ false
  unfolding has_clash
  no_partner x e v m =
      is_false (eqb (w v) (w x)) (λ t. not_both (is_true (some (λ u. eqb (w u) (w x)) (neighbours G x)) (some_in (λ u. eqb (w u) (w x)) (neighbours G x) v m t)) e)

  module _ (none : (x : ℕ) → x < G.banks → has_clash G w x ≡ false) where
    all : (x : ℕ) → T (memb x (upto G.banks)) → has_clash G w x ≡ false
    all x m = none x (upto_below G.banks x m)

    pub pair_none : any_clash G w ≡ false
    unfolding any_clash
    pair_none = none_some (has_clash G w) (upto G.banks) all

    pub first_zero : 0 ≡ clash_first G w
    unfolding clash_first
    first_zero = sym (first_none (has_clash G w) (upto G.banks) all)

    pub second_zero : 0 ≡ clash_second G w
    unfolding clash_second
    second_zero =
        let second : first_of (λ v. eqb (w v) (w 0)) (neighbours G 0) ≡ 0 =
        first_none (λ v. eqb (w v) (w 0)) (neighbours G 0) (λ v m. no_partner 0 (none 0 (omega (arith, neighbour_below G 0 v m))) v m) in
        sym (ap (λ (x : ℕ). first_of (λ v. eqb (w v) (w x)) (neighbours G x)) (sym first_zero) ∙ second)

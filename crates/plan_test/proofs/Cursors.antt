-- The walk over the clashes: the row of a bank names first, up to its cursor, the banks so far that name it, so if the rows
-- are symmetric its cursor stands at the next bank that is to come. Each clash is counted when it is met.
use mathlib.Core.Bool.{Bool, true, false, cond, not, ◌||◌}
use mathlib.Core.List.{List, [], ◌∷◌, ◌++◌}
use mathlib.Core.Logic.{◌⊎◌, inl, inr, ◌≢◌}
use mathlib.Core.Path.{◌≡◌, refl, sym, ap, ◌∙◌, subst}
use Prim.Native.Nat.{ℕ, zero, suc, ◌+◌, ◌*◌, ◌≤◌, ◌<◌}
use native.Mathlib.Decide.{ℕ_discrete}
use native.Mathlib.Nat.{eq-or-lt_of_le}
use native.Mathlib.Numerals.{add-one}
use native.Mathlib.Omega.{arith}
use lib.Dec.{T, eqb, eqb→eq}
use lib.ListN.{length, get_or, take, set, length-append, length-set, length-take, replicate, length-replicate, get_or-replicate, get_or-append}
use lib.Seq.{get_or-take, get_or-set_same, get_or-set_other, get_or_at, length-take-le}
use Rattle.std.specs.Prelude.{IsTrue, ◌↔◌}
use Rattle.rule.specs.Lists.{upto, filter, memb}
use Rattle.rule.specs.Graph.{neighbours}
use Rattle.rule.proofs.Booleans.{or_l, or_r, or_cases, passes?, test_ext, t_along, eq→eqb, is_true, is_false, lt_or_ge}
use Rattle.rule.proofs.Lists.{in_upto, upto_below, in_filter, filter_in, filter_cong, filter_kept, filter_left}
use Rattle.rule.proofs.Neighbours.{degree_length}
use Rattle.memory.specs.inner.Counts.{by_cells, Countable, grown}
use Rattle.memory.specs.inner.Test.{row, part, Rows, WavesSmall, Symmetric, PartRight, CellsRight, counts_of, CountsRight}
use Rattle.plan_test.specs.inner.Walk.{pair_cell, Pairable, naming, PartTo, Seen, Walk}
use Rattle.memory.proofs.Fronts.{take_next, get_d_any, in_cell, cell_of, memb_snoc}
use Rattle.memory.proofs.Rows.{group_at, in_rows, long_row, larger, filled_members, degree_is, cells_are, rows_countable}
use Rattle.memory.proofs.Tallies.{count_none, count_few, skipped, counted, cells_flip, part_of_zeros, part_grown, part_same}

-- the place of b among the numbers below n that pass a test
module _ (p : ℕ → Bool) (b : ℕ) (t : T (p b)) where
  abbrev found : List ℕ → Type 0
  found xs = (length (filter p (upto b)) < length xs) × (get_or xs (length (filter p (upto b))) 0 ≡ b)

  further : (xs : List ℕ) (x : ℕ) → found (filter p xs) → found (filter p (xs ++ (x ∷ [])))
  further xs x r =
      elim (passes? (p x)) [
        | inl y ↦ rw (filter_kept p xs x y) (
          omega (arith, length-append (filter p xs) (x ∷ []), r.0),
          get_or-append (filter p xs) (x ∷ []) 0 (length (filter p (upto b))) r.0 ∙ r.1,
        )
        | inr z ↦ rw (filter_left p xs x z) r
      ]

  place : (n : ℕ) → b < n → found (filter p (upto n))
  unfolding upto
  place zero h = absurd (omega arith)
  place (suc n) h =
      let k : b ≤ n = omega arith in
      elim (eq-or-lt_of_le k) [
        | inl e ↦ subst (λ (m : ℕ). found (filter p (upto m ++ (m ∷ [])))) e here
        | inr l ↦ further (upto n) n (place n l)
      ]
    where
      here : found (filter p (upto b ++ (b ∷ [])))
      here = rw (filter_kept p (upto b) b t) (omega (arith, length-append (filter p (upto b)) (b ∷ [])), get_or_at (filter p (upto b)) b [] 0 (length (filter p (upto b))) refl)

-- the banks so far that name v
module _ (ns : List ℕ) (b v : ℕ) where
  abbrev names : ℕ → Bool
  names x = memb v (row ns x)

  abbrev with_b : Bool → List ℕ
  with_b t = cond t (naming ns b v ++ (b ∷ [])) (naming ns b v)

  in_naming : (x : ℕ) → x < b → T (names x) → T (memb x (naming ns b v))
  unfolding naming
  in_naming x h t = in_filter names (upto b) x (in_upto b x h) t

  naming_in : (x : ℕ) → T (memb x (naming ns b v)) → (x < b) × T (names x)
  unfolding naming
  naming_in x m = let p = filter_in names (upto b) x m in (upto_below b x p.0, p.1)

  naming_next : with_b (names b) ≡ naming ns (b + 1) v
  unfolding naming upto
  naming_next =
      rw add-one (elim (passes? (names b)) [
        | inl t ↦ ap with_b (is_true (names b) t) ∙ sym (filter_kept names (upto b) b t)
        | inr f ↦ ap with_b (is_false (names b) f) ∙ sym (filter_left names (upto b) b f)
      ])

naming_none : (ns : List ℕ) (v : ℕ) → naming ns 0 v ≡ []
unfolding naming upto filter
naming_none ns v = refl

-- before the first row
pub seen_start : {ns ds rs ws : List ℕ} {n : ℕ} → Rows ns ds n → n ≤ length rs → WavesSmall ws n → Seen ns ds rs ws n 0 (replicate 1024 0) (replicate 24576 0)
seen_start {ns} {ds} {rs} {ws} {n} rows ranks waves = record {
  ground = record {
    rows = rows;
    long_ranks = ranks;
    waves = waves;
    long_cursors = length-replicate {A = ℕ} 1024 0;
    long_cells = length-replicate {A = ℕ} 24576 0;
    within = λ v h. rw (none v h) (omega arith);
  };
  fronts = λ v l h. rw (none v h) (sym (naming_none ns v));
  met = λ x y h. absurd (omega arith);
  done = λ x h. absurd (omega arith);
  begun = λ x l h. rw (none x h) (count_none ds rs ws x (part_of_zeros x (omega (arith, rows.most))));
}
  where
    none : (v : ℕ) → v < n → get_or (replicate {A = ℕ} 1024 0) v 0 ≡ 0
    none v h = get_or-replicate {A = ℕ} 1024 v 0 0 (omega (arith, rows.most))

-- before the first cell of the row of b that is not below its cursor
pub walk_start : {ns ds rs ws cs cl : List ℕ} {n b i : ℕ} → Seen ns ds rs ws n b cs cl → b < n → i ≡ get_or cs b 0 → Walk ns ds rs ws n b i cs cl
walk_start {ns} {ds} {rs} {ws} {cs} {cl} {n} {b} {i} s h e = record {
  ground = s.ground;
  bank = h;
  past = omega arith;
  own = s.fronts b (omega arith) h;
  fronts = λ v l k. s.fronts v (omega arith) k ∙ sym (ap (with_b ns b v) (is_false (memb v (take i (row ns b))) (λ m.
      omega (arith, (naming_in ns b b v (rw (e, s.fronts b (omega arith) h) at m)).0))));
  met = s.met;
  here = λ j l k. absurd (omega arith);
  done = s.done;
  half = rw e (s.begun b (omega arith) h);
  begun = λ x l k. s.begun x (omega arith) k;
}

-- one cell of the row of b, which names v
module _ {ns ds rs ws cs cl : List ℕ} {n b i : ℕ} (w : Walk ns ds rs ws n b i cs cl) (hi : i < get_or ds b 0) where
  abbrev rows : Rows ns ds n
  rows = w.ground.rows

  abbrev r : List ℕ
  r = row ns b

  abbrev v : ℕ
  v = get_or ns (b * 23 + i) 0

  few : (x : ℕ) → x < n → get_or ds x 0 ≤ 23
  few x h = (rows.right x h).few

  pub cell_in : b * 23 + i < length ns
  cell_in = omega (arith, w.bank, few b w.bank, rows.long_neighbours)

  is_cell : v ≡ get_or r i 0
  is_cell = sym (group_at 23 ns b i (omega (arith, few b w.bank)))

  -- a cell of the row stands at no place before
  fresh : T (memb v (take i r)) → ⊥
  fresh m =
      let p = cell_of (take i r) v m in
      let k : p.0 < i = omega (arith, length-take i r) in
      omega (arith, is_cell, p.2, get_or-take i r p.0 0 k, larger rows b w.bank p.0 i k hi)

  pub v_bank : v < n
  v_bank = omega (arith, is_cell, ((rows.right b w.bank).named i hi).bank)

  pub v_cursor : v < 1024
  v_cursor = omega (arith, v_bank, rows.most)

  pub v_degree : v < length ds
  v_degree = omega (arith, v_bank, rows.long_degrees)

  pub v_few : get_or ds v 0 ≤ 23
  v_few = few v v_bank

  pub v_row : v * 23 + 23 ≤ length ns
  v_row = omega (arith, v_bank, rows.long_neighbours)

  wave_b : get_or ws b 0 < 24
  wave_b = w.ground.waves.small b w.bank

  wave_v : get_or ws v 0 < 24
  wave_v = w.ground.waves.small v v_bank

  pub pairable : Pairable ds rs ws b v
  pairable = record {
    few = (omega (arith, w.bank, rows.most), v_cursor);
    long_degrees = (omega (arith, w.bank, rows.long_degrees), v_degree);
    long_ranks = (omega (arith, w.bank, w.ground.long_ranks), omega (arith, v_bank, w.ground.long_ranks));
    long_waves = (omega (arith, w.bank, w.ground.waves.long), omega (arith, v_bank, w.ground.waves.long));
    small = (wave_b, wave_v);
  }

  in_r : T (memb v r)
  in_r = rw is_cell (in_cell i r (omega (arith, long_row rows b w.bank, few b w.bank)))

  -- if the rows are symmetric, v is not below b: it would stand before the cursor
  pub not_below : Symmetric ns n → b < v
  not_below sm = elim (lt_or_ge v b) [ inl l ↦ absurd (before l) | inr g ↦ let d : v ≢ b = other in omega arith ]
    where
      other : v ≢ b
      other e = ((rows.right b w.bank).named i hi).other (sym is_cell ∙ e)

      before : v < b → ⊥
      before l =
          let p = cell_of (take (get_or cs b 0) r) v (rw w.own (in_naming ns b b v l (sm b v w.bank v_bank in_r))) in
          let k : p.0 < get_or cs b 0 = omega (arith, length-take (get_or cs b 0) r) in
          omega (arith, is_cell, p.2, get_or-take (get_or cs b 0) r p.0 0 k, w.past, larger rows b w.bank p.0 i (omega (arith, w.past)) hi)

  module _ (lt : b < v) where
    front_v : take (get_or cs v 0) (row ns v) ≡ naming ns b v
    front_v = w.fronts v lt v_bank ∙ ap (with_b ns b v) (is_false (memb v (take i r)) fresh)

    cursor_v : get_or cs v 0 ≡ length (naming ns b v)
    cursor_v =
        sym (length-take-le (get_or cs v 0) (row ns v) (omega (arith, w.ground.within v v_bank, v_few, long_row rows v v_bank))) ∙ ap length front_v

    -- if the rows are symmetric, the row of v has b at its cursor
    module _ (sm : Symmetric ns n) where
      abbrev test : ℕ → Bool
      test x = memb x (row ns v)

      naming_is : naming ns b v ≡ filter test (upto b)
      unfolding naming
      naming_is =
          filter_cong (λ x. memb v (row ns x)) test (upto b) (λ x t.
          let h : x < n = omega (arith, upto_below b x t, w.bank) in
          test_ext (memb v (row ns x)) (test x) (sm x v h v_bank) (sm v x v_bank h))

      at_b : found test b (sm b v w.bank v_bank in_r) (neighbours (in_rows n ns rs) v)
      unfolding neighbours
      at_b = place test b (sm b v w.bank v_bank in_r) n w.bank

      cursor_is : get_or cs v 0 ≡ length (filter test (upto b))
      cursor_is = cursor_v ∙ ap length naming_is

      pub not_past : get_or cs v 0 < get_or ds v 0
      not_past = omega (arith, cursor_is, at_b.0, degree_is rows v v_bank rs, degree_length (in_rows n ns rs) v)

      pub not_other : get_or ns (v * 23 + get_or cs v 0) 0 ≡ b
      not_other =
          let k : get_or cs v 0 < 23 = omega (arith, not_past, v_few) in
          sym (group_at 23 ns v (get_or cs v 0) k) ∙ cells_are rows v v_bank rs (get_or cs v 0) k
          ∙ get_d_any (neighbours (in_rows n ns rs) v) (get_or cs v 0) 65535 0 (omega (arith, cursor_is, at_b.0))
          ∙ ap (λ (z : ℕ). get_or (neighbours (in_rows n ns rs) v) z 0) cursor_is ∙ at_b.1

    -- the row of v has b at its cursor
    module _ (less : get_or cs v 0 < get_or ds v 0) where
      count_b : Countable ns ds rs ws n b
      count_b = rows_countable rows w.ground.long_ranks w.ground.waves w.bank

      count_v : Countable ns ds rs ws n v
      count_v = rows_countable rows w.ground.long_ranks w.ground.waves v_bank

      pub cell_room : {cell : ℕ} → cell ≡ pair_cell ds rs ws b v → (cell < 24576) × (get_or cl cell 0 < 24)
      cell_room e = rw e (go (by_cells ds rs b v))
        where
          go : (t : Bool) → (cond t (v * 24 + get_or ws b 0) (b * 24 + get_or ws v 0) < 24576) × (get_or cl (cond t (v * 24 + get_or ws b 0) (b * 24 + get_or ws v 0)) 0 < 24)
          go true = (
            omega (arith, v_cursor, wave_b),
            rw (group_at 24 cl v (get_or ws b 0) wave_b) at (count_few count_v less (w.begun v lt v_bank) (get_or ws b 0) wave_b),
          )
          go false = (
            omega (arith, w.bank, rows.most, wave_v),
            rw (group_at 24 cl b (get_or ws v 0) wave_v) at (count_few count_b hi w.half (get_or ws v 0) wave_v),
          )

      module _ (there : get_or ns (v * 23 + get_or cs v 0) 0 ≡ b) where
        abbrev cs' : List ℕ
        cs' = set cs v (get_or cs v 0 + 1)

        abbrev cl' : Bool → List ℕ
        cl' t = grown cl (cond t (v * 24 + get_or ws b 0) (b * 24 + get_or ws v 0))

        apart : v ≢ b
        apart e = omega arith

        cursor_same : (u : ℕ) → u ≢ v → get_or cs' u 0 ≡ get_or cs u 0
        cursor_same u q = get_or-set_other cs v u (get_or cs v 0 + 1) 0 q

        cursor_more : get_or cs' v 0 ≡ get_or cs v 0 + 1
        cursor_more = get_or-set_same cs v (get_or cs v 0 + 1) 0 (omega (arith, v_cursor, w.ground.long_cursors))

        -- the cursors
        named_more : (u : ℕ) → memb u (take (i + 1) r) ≡ (memb u (take i r) || eqb u v)
        named_more u =
            ap (memb u) (take_next i r (omega (arith, long_row rows b w.bank, few b w.bank)))
            ∙ memb_snoc (take i r) (get_or r i 0) u ∙ ap (λ (k : ℕ). memb u (take i r) || eqb u k) (sym is_cell)

        front_more : take (get_or cs v 0 + 1) (row ns v) ≡ naming ns b v ++ (b ∷ [])
        front_more =
            let k : get_or cs v 0 < 23 = omega (arith, v_few) in
            take_next (get_or cs v 0) (row ns v) (omega (arith, long_row rows v v_bank))
            ∙ ap (λ (xs : List ℕ). xs ++ (get_or (row ns v) (get_or cs v 0) 0 ∷ [])) front_v
            ∙ ap (λ (y : ℕ). naming ns b v ++ (y ∷ [])) (group_at 23 ns v (get_or cs v 0) k ∙ there)

        front : (u : ℕ) → b < u → u < n → Dec (u ≡ v) → take (get_or cs' u 0) (row ns u) ≡ with_b ns b u (memb u (take (i + 1) r))
        front u l h (yes e) =
            rw e (ap (λ (k : ℕ). take k (row ns v)) cursor_more ∙ front_more
            ∙ sym (ap (with_b ns b v) (is_true (memb v (take (i + 1) r)) (t_along (sym (named_more v)) (or_r (memb v (take i r)) (eqb v v) (eq→eqb v v refl))))))
        front u l h (no q) =
            let same : memb u (take i r) ≡ memb u (take (i + 1) r) =
            test_ext (memb u (take i r)) (memb u (take (i + 1) r))
            (λ k. t_along (sym (named_more u)) (or_l (memb u (take i r)) (eqb u v) k))
            (λ k. elim (or_cases (memb u (take i r)) (eqb u v) (t_along (named_more u) k)) [ inl t ↦ t | inr t ↦ absurd (q (eqb→eq u v t)) ]) in
            ap (λ (k : ℕ). take k (row ns u)) (cursor_same u q) ∙ w.fronts u l h ∙ ap (with_b ns b u) same

        within : (u : ℕ) → u < n → Dec (u ≡ v) → get_or cs' u 0 ≤ get_or ds u 0
        within u h (yes e) = rw e (omega (arith, cursor_more))
        within u h (no q) = omega (arith, cursor_same u q, w.ground.within u h)

        names_b : T (memb b (row ns v))
        names_b =
            let k : get_or cs v 0 < 23 = omega (arith, v_few) in
            let e : get_or (row ns v) (get_or cs v 0) 0 ≡ b = group_at 23 ns v (get_or cs v 0) k ∙ there in
            subst (λ (z : ℕ). T (memb z (row ns v))) e (in_cell (get_or cs v 0) (row ns v) (omega (arith, long_row rows v v_bank)))

        met_more : (j : ℕ) → get_or cs b 0 ≤ j → (j ≡ i) ⊎ (j < i) → T (memb b (row ns (get_or r j 0)))
        met_more j g (inl e) = subst (λ (k : ℕ). T (memb b (row ns k))) (is_cell ∙ ap (λ (k : ℕ). get_or r k 0) (sym e)) names_b
        met_more j g (inr l) = w.here j g l

        -- the counts
        untouched : (t : Bool) (x k : ℕ) → x < n → x ≢ b → x ≢ v → PartTo ns ds rs ws cl x k → PartTo ns ds rs ws (cl' t) x k
        untouched true x k h p q tl = rw (part_same cl x v (get_or ws b 0) w.ground.long_cells (omega (arith, rows.most)) wave_b q) tl
        untouched false x k h p q tl = rw (part_same cl x b (get_or ws v 0) w.ground.long_cells (omega (arith, rows.most)) wave_v p) tl

        half : (t : Bool) → by_cells ds rs b v ≡ t → PartTo ns ds rs ws (cl' t) b (i + 1)
        half true e =
            rw (part_same cl b v (get_or ws b 0) w.ground.long_cells (omega (arith, w.bank, rows.most)) wave_b (λ q. apart (sym q)))
            (skipped count_b hi w.half (cells_flip ds rs v b apart ∙ ap not e))
        half false e =
            rw (part_grown cl b (get_or ws v 0) w.ground.long_cells (omega (arith, w.bank, rows.most)) wave_v)
            (counted count_b hi w.half (cells_flip ds rs v b apart ∙ ap not e) refl)

        whole : (t : Bool) → by_cells ds rs b v ≡ t → PartTo ns ds rs ws (cl' t) v (get_or cs v 0 + 1)
        whole true e =
            rw (part_grown cl v (get_or ws b 0) w.ground.long_cells v_cursor wave_b)
            (counted count_v less (w.begun v lt v_bank) (ap (λ (k : ℕ). by_cells ds rs k v) there ∙ e) (ap (λ (k : ℕ). get_or ws k 0) (sym there)))
        whole false e =
            rw (part_same cl v b (get_or ws v 0) w.ground.long_cells v_cursor wave_v apart)
            (skipped count_v less (w.begun v lt v_bank) (ap (λ (k : ℕ). by_cells ds rs k v) there ∙ e))

        begun : (t : Bool) → by_cells ds rs b v ≡ t → (x : ℕ) → b < x → x < n → Dec (x ≡ v) → PartTo ns ds rs ws (cl' t) x (get_or cs' x 0)
        begun t e x l h (yes q) = rw (q, cursor_more) (whole t e)
        begun t e x l h (no q) = rw (cursor_same x q) (untouched t x (get_or cs x 0) h (λ p. omega arith) q (w.begun x l h))

        walk_on : (t : Bool) → by_cells ds rs b v ≡ t → Walk ns ds rs ws n b (i + 1) cs' (cl' t)
        walk_on t e =
            let same : get_or cs' b 0 ≡ get_or cs b 0 = cursor_same b (λ q. apart (sym q)) in
            record {
              ground = record {
                rows = rows;
                long_ranks = w.ground.long_ranks;
                waves = w.ground.waves;
                long_cursors = length-set cs v (get_or cs v 0 + 1) ∙ w.ground.long_cursors;
                long_cells = length-set cl _ _ ∙ w.ground.long_cells;
                within = λ u h. within u h (ℕ_discrete u v);
              };
              bank = w.bank;
              past = omega (arith, same, w.past);
              own = rw same w.own;
              fronts = λ u l h. front u l h (ℕ_discrete u v);
              met = w.met;
              here = λ j g h. let k : j ≤ i = omega arith in met_more j (omega (arith, same)) (eq-or-lt_of_le k);
              done = λ x h. untouched t x (get_or ds x 0) (omega (arith, w.bank)) (λ p. omega arith) (λ p. omega arith) (w.done x h);
              half = half t e;
              begun = λ x l h. begun t e x l h (ℕ_discrete x v);
            }

        -- as the code has it: `to` is v as an index
        pub walk_step : {to cell : ℕ} → to ≡ v → cell ≡ pair_cell ds rs ws b v → Walk ns ds rs ws n b (i + 1) (set cs to (get_or cs to 0 + 1)) (grown cl cell)
        walk_step p q = rw (p, q) (walk_on (by_cells ds rs b v) refl)

-- after the last cell of the row
pub walk_end : {ns ds rs ws cs cl : List ℕ} {n b : ℕ} → Walk ns ds rs ws n b (get_or ds b 0) cs cl → Seen ns ds rs ws n (b + 1) cs cl
walk_end {ns} {ds} {rs} {ws} {cs} {cl} {n} {b} w = record {
  ground = w.ground;
  fronts = λ v l h. w.fronts v (omega arith) h ∙ ap (with_b ns b v) (members v h) ∙ naming_next ns b v;
  met = λ x y h hy m. let k : x ≤ b = omega arith in go x y hy m (eq-or-lt_of_le k);
  done = λ x h. let k : x ≤ b = omega arith in all x (eq-or-lt_of_le k);
  begun = λ x l h. w.begun x (omega arith) h;
}
  where
    r : List ℕ
    r = row ns b

    d : ℕ
    d = get_or ds b 0

    members : (y : ℕ) → y < n → memb y (take d r) ≡ memb y r
    members = filled_members w.ground.rows b w.bank

    -- a cell before the cursor is a bank that names b, and the others were met
    cell_met : (j : ℕ) → j < d → (j < get_or cs b 0) ⊎ (get_or cs b 0 ≤ j) → T (memb b (row ns (get_or r j 0)))
    cell_met j h (inl l) =
        let e : get_or (naming ns b b) j 0 ≡ get_or r j 0 = ap (λ (xs : List ℕ). get_or xs j 0) (sym w.own) ∙ get_or-take (get_or cs b 0) r j 0 l in
        let k : j < length (naming ns b b) = omega (arith, ap length w.own, length-take (get_or cs b 0) r, long_row w.ground.rows b w.bank, (w.ground.rows.right b w.bank).few) in
        subst (λ (z : ℕ). T (memb b (row ns z))) e (naming_in ns b b (get_or (naming ns b b) j 0) (in_cell j (naming ns b b) k)).1
    cell_met j h (inr g) = w.here j g h

    here : (y : ℕ) → y < n → T (memb y r) → T (memb b (row ns y))
    here y h m =
        let p = cell_of (take d r) y (t_along (sym (members y h)) m) in
        let k : p.0 < d = omega (arith, length-take d r) in
        subst (λ (z : ℕ). T (memb b (row ns z))) (sym (get_or-take d r p.0 0 k) ∙ p.2) (cell_met p.0 k (lt_or_ge p.0 (get_or cs b 0)))

    go : (x y : ℕ) → y < n → T (memb y (row ns x)) → (x ≡ b) ⊎ (x < b) → T (memb x (row ns y))
    go x y hy m (inl e) = rw e (here y hy (subst (λ (k : ℕ). T (memb y (row ns k))) e m))
    go x y hy m (inr l) = w.met x y l hy m

    all : (x : ℕ) → (x ≡ b) ⊎ (x < b) → PartTo ns ds rs ws cl x (get_or ds x 0)
    all x (inl e) = rw e w.half
    all x (inr l) = w.done x l

-- a part is right by counts that are equal
part_along : {p : List ℕ} {f g : ℕ → ℕ} {w : ℕ} → ((c : ℕ) → c < 24 → f c ≡ g c) → w < 24 → PartRight p f w → PartRight p g w
part_along {p} {f} {g} {w} e l r = record {
  same = λ c k. r.same c k ∙ e c k;
  lowest = record { below = λ c k z. r.lowest.below c k (e c (omega arith) ∙ z); at = sym (e w l) ∙ r.lowest.at };
}

-- after the last row: what tests Counts by the cells tests it by the counts
module _ {ns ds rs ws cs cl : List ℕ} {n b : ℕ} (l : n ≤ b) (s : Seen ns ds rs ws n b cs cl) where
  cell_is : (x c : ℕ) → x < n → c < 24 → get_or (part cl x) c 0 ≡ counts_of ns ds rs ws x c
  cell_is x c h k = (s.done x (omega arith)).counts c k

  pub seen_end : (counts : List ℕ) (r : Bool) → (IsTrue r ↔ CellsRight ws cl counts n) → IsTrue r ↔ (Symmetric ns n × CountsRight ns ds rs ws counts n)
  seen_end counts r t = (
    λ e. (λ x y hx hy m. s.met x y (omega arith) hy m, λ x h. part_along (λ c k. cell_is x c h k) (s.ground.waves.small x h) (t.0 e x h)),
    λ p. t.1 (λ x h. part_along (λ c k. sym (cell_is x c h k)) (s.ground.waves.small x h) (p.1 x h)),
  )

-- The rows and degrees of the new clashes: those of a and b are written anew, all others stay.
use mathlib.Core.Bool.{not, or_comm}
use mathlib.Core.List.{List}
use mathlib.Core.Logic.{inl, inr, ◌≢◌}
use mathlib.Core.Path.{◌≡◌, refl, sym, ap, subst, ◌∙◌}
use Prim.Native.Nat.{ℕ, ◌+◌, ◌*◌, ◌≤◌, ◌<◌}
use native.Mathlib.Decide.{ℕ_discrete, dec_lt}
use native.Mathlib.Numerals.{lt_of_le_of_ne}
use native.Mathlib.Omega.{arith}
use lib.Dec.{T, eqb, ltb, eqb→eq}
use lib.ListN.{length, get_or, length-set}
use lib.Seq.{ext_get_or, get_or-set_same, get_or-set_other}
use Rattle.rule.specs.Lists.{memb, insert_by}
use Rattle.rule.specs.Graph.{Graph, neighbours, degree, pair, added, struck}
use Rattle.rule.specs.Reach.{edited}
use Rattle.rule.specs.declared.Kind.{Kind}
use Rattle.rule.specs.declared.Kind.TheVariants.{Adding, Striking}
use Rattle.rule.specs.WorkList.{OneEdit, Allowed}
use Rattle.rule.proofs.Booleans.{and_l, or_cases, t_along}
use Rattle.rule.proofs.Order.{ltb_strict}
use Rattle.rule.proofs.Sorting.{sorted_unique, sorted_insert_by, memb_insert_by, sorted_filter, memb_filter}
use Rattle.rule.proofs.Neighbours.{degree_length, neighbours_in, in_neighbours, neighbours_sorted}
use Rattle.rule.proofs.OneClash.{pair_a, pair_b, pair_none, neighbours_more, neighbours_less, neighbours_added, neighbours_struck, degrees_more, degrees_less}
use Rattle.rule.proofs.Theorems.{edited_one}
use Rattle.memory.specs.inner.View.{Rowed}
use Rattle.neighbour_rows.specs.Acceptable.{HasRoom, Acceptable}
use Rattle.memory.specs.inner.Test.{row}
use Rattle.memory.proofs.Rows.{group_at, length_group}
use Rattle.neighbour_rows.specs.Rewritten.{Rewritten}
use Rattle.neighbour_rows.specs.inner.Rows.{RowOf, without, AlterableRow, row_after, degree_after, Altering, Altered}

-- a bank that the clash of a and b gives y, or takes from it
module _ (G : Graph) (a b y z : ℕ) (lz : z < G.banks) (gives : (x : ℕ) → pair a b y x ≡ eqb x z) where
  added_row : (T (G.clash y z) → ⊥) → neighbours (added G a b) y ≡ insert_by ltb z (neighbours G y)
  added_row free =
      sorted_unique ltb ltb_strict _ _ (neighbours_sorted (added G a b) y)
      (sorted_insert_by ltb ltb_strict z (neighbours G y) (λ m. free (neighbours_in G y z m).1) (neighbours_sorted G y))
      (λ x. neighbours_more G a b y z gives lz x ∙ or_comm (memb x (neighbours G y)) (eqb x z) ∙ sym (memb_insert_by ltb z (neighbours G y) x))

  struck_row : neighbours (struck G a b) y ≡ without z (neighbours G y)
  unfolding without
  struck_row =
      sorted_unique ltb ltb_strict _ _ (neighbours_sorted (struck G a b) y) (sorted_filter ltb (λ x. not (eqb x z)) (neighbours G y) (neighbours_sorted G y))
      (λ x. neighbours_less G a b y z gives x ∙ sym (memb_filter (λ v. not (eqb v z)) (neighbours G y) x))

-- neighbours and degrees of the new clashes, by those of the old
record Neighbouring (k : Kind) (G : Graph) (a b : ℕ) : Type 0 where
  row_a : neighbours (edited k G a b) a ≡ row_after k b (neighbours G a)
  row_b : neighbours (edited k G a b) b ≡ row_after k a (neighbours G b)
  others : (y : ℕ) → y ≢ a → y ≢ b → neighbours (edited k G a b) y ≡ neighbours G y
  degree_a : degree (edited k G a b) a ≡ degree_after k (degree G a)
  degree_b : degree (edited k G a b) b ≡ degree_after k (degree G b)
  apart : (x : ℕ) → x < G.banks → T ((edited k G a b).clash x x) → ⊥

no_self : (a b x : ℕ) → a ≢ b → T (pair a b x x) → ⊥
no_self a b x d t = go (ℕ_discrete x a) (ℕ_discrete x b)
  where
    go : Dec (x ≡ a) → Dec (x ≡ b) → ⊥
    go (yes e) f = d (sym e ∙ eqb→eq x b (t_along (ap (λ (y : ℕ). pair a b y x) e ∙ pair_a a b d x) t))
    go (no na) (yes e) = na (eqb→eq x a (t_along (ap (λ (y : ℕ). pair a b y x) e ∙ pair_b a b d x) t))
    go (no na) (no nb) = t_along (pair_none a b x na nb x) t

module _ (G : Graph) (symmetric : (x y : ℕ) → x < G.banks → y < G.banks → G.clash x y ≡ G.clash y x) (apart : (x : ℕ) → x < G.banks → T (G.clash x x) → ⊥)
    (a b : ℕ) (la : a < G.banks) (lb : b < G.banks) (d : a ≢ b) where
  neighbouring : (k : Kind) → Allowed k G a b → Neighbouring k G a b
  unfolding edited
  neighbouring Adding free =
      let back : T (G.clash b a) → ⊥ = λ t. free (t_along (symmetric b a lb la) t) in
      let degrees = degrees_more G a b la lb d free back in
      record {
        row_a = added_row G a b a b lb (pair_a a b d) free;
        row_b = added_row G a b b a la (pair_b a b d) back;
        others = neighbours_added G a b;
        degree_a = degrees.0;
        degree_b = degrees.1;
        apart = λ x l t. elim (or_cases (G.clash x x) (pair a b x x) t) [ inl u ↦ apart x l u | inr u ↦ no_self a b x d u ];
      }
  neighbouring Striking there =
      let degrees = degrees_less G a b la lb d there (t_along (symmetric a b la lb) there) in
      record {
        row_a = struck_row G a b a b lb (pair_a a b d);
        row_b = struck_row G a b b a la (pair_b a b d);
        others = neighbours_struck G a b;
        degree_a = omega (arith, degrees.0);
        degree_b = omega (arith, degrees.1);
        apart = λ x l t. apart x l (and_l (G.clash x x) (not (pair a b x x)) t);
      }

row_long : (ns : List ℕ) (y : ℕ) → y * 23 + 23 ≤ length ns → length (row ns y) ≡ 23
row_long ns y h = length_group 23 ns y (y + 1) (omega arith) (omega arith)

-- another row, and another degree
module _ {k : Kind} {ns ds ns' ds' : List ℕ} {a v : ℕ} {banks : List ℕ} {r : ℕ} (al : Altered k ns ds ns' ds' a v banks r) where
  other_row : length ns' ≡ length ns → (y : ℕ) → y * 23 + 23 ≤ length ns → y ≢ a → row ns' y ≡ row ns y
  other_row same y h d = ext_get_or 0 (row ns' y) (row ns y)
      (row_long ns' y (omega arith) ∙ sym (row_long ns y h))
      (λ i s. (let l : i < 23 = omega (arith, row_long ns' y (omega arith)) in group_at 23 ns' y i l ∙ go i l (dec_lt y a) ∙ sym (group_at 23 ns y i l)))
    where
      go : (i : ℕ) → i < 23 → Dec (y < a) → get_or ns' (y * 23 + i) 0 ≡ get_or ns (y * 23 + i) 0
      go i l (yes h) = al.below (y * 23 + i) (omega arith)
      go i l (no h) = let m : a < y = lt_of_le_of_ne (omega arith) (λ e. d (sym e)) in al.above (y * 23 + i) (omega arith)

  other_degree : (y : ℕ) → y ≢ a → get_or ds' y 0 ≡ get_or ds y 0
  other_degree y d = rw al.degrees (get_or-set_other ds a y (degree_after k (get_or ds a 0)) 0 d)

  own_degree : a < length ds → get_or ds' a 0 ≡ degree_after k (get_or ds a 0)
  own_degree h = rw al.degrees (get_or-set_same ds a (degree_after k (get_or ds a 0)) 0 h)

  same_degrees : length ds' ≡ length ds
  same_degrees = rw al.degrees (length-set ds a (degree_after k (get_or ds a 0)))

-- a row that is to gain or lose z, and can
ready : (G : Graph) (y z : ℕ) {cells : List ℕ} {d : ℕ} (k : Kind) → RowOf cells (neighbours G y) → d ≡ length (neighbours G y) → z < G.banks → Allowed k G y z
    → (k ≡ Adding → d < 23) → AlterableRow k cells (neighbours G y) d z
ready G y z Adding holds degree lz free room = record { holds = holds; degree = degree; room = room refl; fresh = λ m. free (neighbours_in G y z m).1 }
ready G y z Striking holds degree lz there room = record { holds = holds; degree = degree; has = in_neighbours G y z lz there }

allowed_back : (G : Graph) (a b : ℕ) (k : Kind) → G.clash a b ≡ G.clash b a → Allowed k G a b → Allowed k G b a
allowed_back G a b Adding e free = λ t. free (t_along (sym e) t)
allowed_back G a b Striking e there = t_along e there

module _ {k : Kind} {G : Graph} {ns ds : List ℕ} {a b : ℕ} (rd : Rowed G ns ds) (ac : Acceptable k G a b) where
  abbrev nb : Neighbouring k G a b
  nb = neighbouring G rd.symmetric rd.apart a b ac.bank_a ac.bank_b ac.differ k ac.allowed

  row_in : (y : ℕ) → y < G.banks → y * 23 + 23 ≤ length ns
  row_in y l = omega (arith, rd.wide_rows)

  row_of-law : (y : ℕ) → y < G.banks → RowOf (row ns y) (neighbours G y)
  row_of-law y l = record {
    long = row_long ns y (row_in y l);
    few = omega (arith, degree_length G y, rd.small y l);
    sorted = neighbours_sorted G y;
    each = λ i h. group_at 23 ns y i h ∙ rd.rows y i l h;
  }

  room_of : k ≡ Adding → (degree G a < 23) × (degree G b < 23)
  room_of e = subst (λ (j : Kind). HasRoom j G a b) e ac.room

  pub altering_a : Altering k ns ds a b (neighbours G a)
  altering_a = record {
    in_rows = row_in a ac.bank_a;
    in_degrees = omega (arith, ac.bank_a, rd.wide_degrees);
    ready = ready G a b k (row_of-law a ac.bank_a) (rd.degrees a ac.bank_a ∙ degree_length G a) ac.bank_b ac.allowed
        (λ e. omega (arith, (room_of e).0, rd.degrees a ac.bank_a));
  }

  module _ {ns1 ds1 : List ℕ} {r1 : ℕ} (same1 : length ns1 ≡ length ns) (al1 : Altered k ns ds ns1 ds1 a b (neighbours G a) r1) where
    back : b ≢ a
    back e = ac.differ (sym e)

    degree_b-law : get_or ds1 b 0 ≡ degree G b
    degree_b-law = other_degree al1 b back ∙ rd.degrees b ac.bank_b

    pub altering_b : Altering k ns1 ds1 b a (neighbours G b)
    altering_b = record {
      in_rows = omega (arith, row_in b ac.bank_b);
      in_degrees = omega (arith, ac.bank_b, rd.wide_degrees, same_degrees al1);
      ready = ready G b a k (rw (other_row al1 same1 b (row_in b ac.bank_b) back) (row_of-law b ac.bank_b)) (degree_b-law ∙ degree_length G b) ac.bank_a
          (allowed_back G a b k (rd.symmetric a b ac.bank_a ac.bank_b) ac.allowed) (λ e. omega (arith, (room_of e).1, degree_b-law));
    }

    module _ {ns2 ds2 : List ℕ} {r2 : ℕ} (same2 : length ns2 ≡ length ns1) (al2 : Altered k ns1 ds1 ns2 ds2 b a (neighbours G b) r2) where
      abbrev H : Graph
      H = edited k G a b

      edit : OneEdit G H a b
      edit = edited_one G rd.symmetric a b ac.bank_a ac.bank_b ac.differ k

      rows_now : (y : ℕ) → y < G.banks → RowOf (row ns2 y) (neighbours H y)
      rows_now y l = go (ℕ_discrete y a) (ℕ_discrete y b)
        where
          go : Dec (y ≡ a) → Dec (y ≡ b) → RowOf (row ns2 y) (neighbours H y)
          go (yes e) g = rw (e, nb.row_a, other_row al2 same2 a (omega (arith, row_in a ac.bank_a)) ac.differ) al1.holds
          go (no na) (yes e) = rw (e, nb.row_b) al2.holds
          go (no na) (no n) = rw (nb.others y na n, other_row al2 same2 y (omega (arith, row_in y l)) n, other_row al1 same1 y (row_in y l) na) (row_of-law y l)

      degrees_now : (y : ℕ) → y < G.banks → get_or ds2 y 0 ≡ degree H y
      degrees_now y l = go (ℕ_discrete y a) (ℕ_discrete y b)
        where
          at_a : get_or ds2 a 0 ≡ degree H a
          at_a = other_degree al2 a ac.differ ∙ own_degree al1 (omega (arith, ac.bank_a, rd.wide_degrees)) ∙ ap (degree_after k) (rd.degrees a ac.bank_a) ∙ sym nb.degree_a

          at_b : get_or ds2 b 0 ≡ degree H b
          at_b = own_degree al2 (omega (arith, ac.bank_b, rd.wide_degrees, same_degrees al1)) ∙ ap (degree_after k) degree_b-law ∙ sym nb.degree_b

          go : Dec (y ≡ a) → Dec (y ≡ b) → get_or ds2 y 0 ≡ degree H y
          go (yes e) g = rw e at_a
          go (no na) (yes e) = rw e at_b
          go (no na) (no n) = other_degree al2 y n ∙ other_degree al1 y na ∙ rd.degrees y l ∙ degree_length G y ∙ ap length (sym (nb.others y na n)) ∙ sym (degree_length H y)

      pub rewritten : Rewritten k G a b ns ds ns2 ds2 (record { a = r1; b = r2 })
      rewritten =
          let same : G.banks ≡ H.banks = edit.same_banks in
          record {
            rowed = record {
              few = omega (arith, rd.few);
              wide_rows = omega (arith, rd.wide_rows);
              wide_degrees = omega (arith, rd.wide_degrees, same_degrees al1, same_degrees al2);
              degrees = λ y l. degrees_now y (omega arith);
              small = λ y l. omega (arith, degree_length H y, (rows_now y (omega arith)).few);
              rows = λ y i l h. sym (group_at 23 ns2 y i h) ∙ (rows_now y (omega arith)).each i h;
              symmetric = edit.symmetric;
              apart = λ x l. nb.apart x (omega arith);
            };
            rows_beyond = record { long = same2 ∙ same1; same = λ j l. al2.above j (omega (arith, ac.bank_b)) ∙ al1.above j (omega (arith, ac.bank_a)) };
            degrees_beyond = record {
              long = same_degrees al2 ∙ same_degrees al1;
              same = λ j l. other_degree al2 j (λ e. omega (arith, ac.bank_b)) ∙ other_degree al1 j (λ e. omega (arith, ac.bank_a));
            };
            degree_a = al1.was ∙ rd.degrees a ac.bank_a;
            degree_b = al2.was ∙ degree_b-law;
          }

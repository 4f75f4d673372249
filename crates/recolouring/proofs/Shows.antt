-- Rows and degrees that show a plan: the i-th neighbour of h, in its cell.
use mathlib.Core.Bool.{◌||◌}
use mathlib.Core.List.{List, [], ◌∷◌, ◌++◌}
use mathlib.Core.Path.{◌≡◌, sym, ap, subst, ◌∙◌}
use Prim.Native.Nat.{ℕ, ◌+◌, ◌*◌, ◌≤◌, ◌<◌}
use native.Mathlib.Omega.{arith}
use lib.Dec.{T, eqb, ltb}
use lib.ListN.{length, get_or, take, drop, take-append-drop}
use lib.Seq.{take_all}
use Rattle.rule.specs.Lists.{memb, Sorted}
use Rattle.rule.specs.Graph.{Graph, neighbours, degree, earlier_neighbours}
use Rattle.rule.proofs.Lists.{in_head}
use Rattle.rule.proofs.Neighbours.{degree_length, neighbours_in, neighbours_sorted, fewer_earlier}
use Rattle.rule.proofs.Order.{ltb_strict}
use Rattle.memory.specs.inner.View.{Shown}
use Rattle.memory.proofs.Fronts.{take_next, drop_next, in_cell, memb_snoc}
use Rattle.queue.specs.Queue.{Keyed, Queue, Enqueuable}
use Rattle.recolouring.proofs.SortedLists.{sorted_apart}

module _ {G : Graph} {ns ds rs : List ℕ} (sh : Shown G ns ds rs) where
  pub few_earlier : (b : ℕ) → b < G.banks → length (earlier_neighbours G b) ≤ 23
  few_earlier b h = omega (arith, fewer_earlier G b, sh.small b h)

  pub whole_row : (h : ℕ) → h < G.banks → take (get_or ds h 0) (neighbours G h) ≡ neighbours G h
  whole_row h bank = take_all (get_or ds h 0) (neighbours G h) (omega (arith, sh.degrees h bank, degree_length G h))

  -- the banks have a place in the queue
  pub keyed : Keyed G
  keyed = record { few = sh.few; small = sh.small }

  pub enqueuable_of : {queue : List ℕ} {v : ℕ} → Queue G queue → v < G.banks → Enqueuable G queue v (get_or ds v 0)
  enqueuable_of {v = v} q bank = record {
    keyed = keyed;
    queue = q;
    bank = bank;
    own_degree = sh.degrees v bank;
  }

  module _ (h i : ℕ) (bank : h < G.banks) (lt : i < get_or ds h 0) where
    abbrev v : ℕ
    v = get_or ns (h * 23 + i) 0

    below_degree : i < degree G h
    below_degree = omega (arith, sh.degrees h bank)

    pub cell_inside : h * 23 + i < length ns
    cell_inside = omega (arith, below_degree, sh.small h bank, sh.wide_rows, bank)

    in_list : i < length (neighbours G h)
    in_list = omega (arith, below_degree, degree_length G h)

    v_is : v ≡ get_or (neighbours G h) i 0
    v_is = sh.rows h i bank below_degree

    v_in : T (memb v (neighbours G h))
    v_in = rw v_is (in_cell i (neighbours G h) in_list)

    pub cell_bank : v < G.banks
    cell_bank = (neighbours_in G h v v_in).0

    pub cell_clash : T (G.clash h v)
    cell_clash = (neighbours_in G h v v_in).1

    pub cell_degree : v < length ds
    cell_degree = omega (arith, cell_bank, sh.wide_degrees)

    -- it is not among those before it
    pub cell_new : T (memb v (take i (neighbours G h))) → ⊥
    cell_new m =
        sorted_apart ltb ltb_strict.irrefl (take i (neighbours G h)) (drop i (neighbours G h)) v (subst (Sorted ltb) (sym (take-append-drop i (neighbours G h))) (neighbours_sorted G h)) m
        (rw (drop_next i (neighbours G h) in_list) (in_head v (get_or (neighbours G h) i 0) (drop (i + 1) (neighbours G h)) v_is))

    pub row_memb : (x : ℕ) → memb x (take (i + 1) (neighbours G h)) ≡ (memb x (take i (neighbours G h)) || eqb x v)
    row_memb x = ap (memb x) (take_next i (neighbours G h) in_list ∙ ap (λ (z : ℕ). take i (neighbours G h) ++ (z ∷ [])) (sym v_is)) ∙ memb_snoc (take i (neighbours G h)) v x

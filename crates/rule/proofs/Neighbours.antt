-- A bank's neighbours and earlier neighbours, by their members.
use mathlib.Core.Bool.{◌&&◌}
use mathlib.Core.Path.{◌≡◌, refl}
use Prim.Native.Nat.{ℕ, ◌≤◌, ◌<◌}
use lib.Dec.{T, ltb}
use lib.ListN.{length}
use Rattle.rule.specs.Lists.{upto, filter, memb, Sorted}
use Rattle.rule.specs.Graph.{Graph, neighbours, degree, earlier, earlier_neighbours}
use Rattle.rule.proofs.Booleans.{and_l, test_ext}
use Rattle.rule.proofs.Lists.{in_upto, upto_below, in_filter, filter_in, count_le, filter_filter}
use Rattle.rule.proofs.Sorting.{sorted_upto, sorted_filter}

module _ (G : Graph) where
  pub degree_length : (b : ℕ) → degree G b ≡ length (neighbours G b)
  unfolding degree
  degree_length b = refl

  pub neighbours_in : (b v : ℕ) → T (memb v (neighbours G b)) → (v < G.banks) × T (G.clash b v)
  unfolding neighbours
  neighbours_in b v m = let r = filter_in (G.clash b) (upto G.banks) v m in (upto_below G.banks v r.0, r.1)

  pub in_neighbours : (b v : ℕ) → v < G.banks → T (G.clash b v) → T (memb v (neighbours G b))
  unfolding neighbours
  in_neighbours b v h t = in_filter (G.clash b) (upto G.banks) v (in_upto G.banks v h) t

  pub memb_neighbours : (b v : ℕ) → v < G.banks → memb v (neighbours G b) ≡ G.clash b v
  memb_neighbours b v h = test_ext (memb v (neighbours G b)) (G.clash b v) (λ m. (neighbours_in b v m).1) (λ t. in_neighbours b v h t)

  pub neighbours_sorted : (b : ℕ) → Sorted ltb (neighbours G b)
  unfolding neighbours
  neighbours_sorted b = sorted_filter ltb (G.clash b) (upto G.banks) (sorted_upto G.banks)

  pub earlier_neighbours_sorted : (b : ℕ) → Sorted ltb (earlier_neighbours G b)
  unfolding earlier_neighbours
  earlier_neighbours_sorted b = sorted_filter ltb (λ v. G.clash b v && earlier G v b) (upto G.banks) (sorted_upto G.banks)

  pub fewer_earlier : (b : ℕ) → length (earlier_neighbours G b) ≤ degree G b
  unfolding earlier_neighbours degree neighbours
  fewer_earlier b = count_le (λ v. G.clash b v && earlier G v b) (G.clash b) (upto G.banks) (λ x m t. and_l (G.clash b x) (earlier G x b) t)

  -- the earlier ones of the neighbours
  pub earlier_ones : (b : ℕ) → filter (λ v. earlier G v b) (neighbours G b) ≡ earlier_neighbours G b
  unfolding neighbours earlier_neighbours
  earlier_ones b = filter_filter (G.clash b) (λ v. earlier G v b) (upto G.banks)

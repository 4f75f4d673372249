-- The plan of no clash, cell by cell, and what opening leaves.
use mathlib.Core.Bool.{Bool, true, false, ◌&&◌}
use mathlib.Core.List.{List, [], ◌∷◌, ◌++◌, map, foldr}
use mathlib.Core.Path.{◌≡◌, refl, sym, ap, ap₂, ◌∙◌}
use native.Mathlib.Omega.{arith}
use Prim.Native.Nat.{ℕ, zero, suc, ◌+◌, ◌*◌, ◌/◌, ◌%◌, ◌≤◌, ◌<◌, max, min}
use lib.Dec.{T, eqb}
use lib.ListN.{length, get_or, drop, replicate, length-replicate}
use Rattle.rule.specs.Lists.{upto, memb, filter}
use Rattle.rule.specs.Graph.{Graph, neighbours, degree, earlier, earlier_neighbours, empty}
use Rattle.rule.specs.Wave.{lowest_from, lowest_free, wave, waves, wave_count}
use Rattle.rule.proofs.Lists.{length_upto, upto_below, in_head, in_tail, filter_cong, filter_none}
use Rattle.rule.proofs.Theorems.{wave_equation}
use Rattle.memory.specs.declared.Tally.{Tally}
use Rattle.memory.specs.Cells.{cells, over}
use Rattle.memory.specs.Plan.{Slices, slices_of, long_enough, neighbour_cells, degree_cells, count_cells, rank_cells, clash_count, tally_of, plan_in}
use Rattle.memory.specs.Plan.{PlanOf}
use Rattle.planner.specs.Calls.{OpenResult, open_result, open_number, opened_by, opened}
use Rattle.planner.specs.inner.Held.{Bare}
use Rattle.memory.proofs.Theorems.{open_plan}
use Rattle.planner.proofs.Numbers.{open_many, open_short, open_fine, open_passed}

map_const : (f : ℕ → ℕ) (v : ℕ) (xs : List ℕ) → ((x : ℕ) → T (memb x xs) → f x ≡ v) → map f xs ≡ replicate (length xs) v
map_const f v [] h = refl
map_const f v (x ∷ xs) h = ap₂ ◌∷◌ (h x (in_head x x xs refl)) (map_const f v xs (λ y m. h y (in_tail y x xs m)))

cells_const : (k : ℕ) (f : ℕ → ℕ) (v : ℕ) → ((i : ℕ) → i < k → f i ≡ v) → cells k f ≡ replicate k v
unfolding cells
cells_const k f v h = map_const f v (upto k) (λ x m. h x (upto_below k x m)) ∙ ap (λ (n : ℕ). replicate n v) (length_upto k)

over_const : (k v : ℕ) (front xs : List ℕ) → front ≡ replicate k v → over front xs ≡ replicate k v ++ drop k xs
unfolding over
over_const k v front xs e =
    ap (λ (f : List ℕ). f ++ drop (length f) xs) e ∙ ap (λ (m : ℕ). replicate k v ++ drop m xs) (length-replicate k v)

sum_none : (g : ℕ → ℕ) (xs : List ℕ) → ((x : ℕ) → T (memb x xs) → g x ≡ 0) → foldr (λ (b m : ℕ). g b + m) 0 xs ≡ 0
sum_none g [] h = refl
sum_none g (x ∷ xs) h = omega (arith, h x (in_head x x xs refl), sum_none g xs (λ y m. h y (in_tail y x xs m)))

most_none : (g : ℕ → ℕ) (xs : List ℕ) → ((x : ℕ) → T (memb x xs) → g x ≡ 0) → foldr (λ (b k : ℕ). max (suc (g b)) k) 0 xs ≡ min 1 (length xs)
most_none g [] h = refl
most_none g (x ∷ xs) h = omega (arith, h x (in_head x x xs refl), most_none g xs (λ y m. h y (in_tail y x xs m)))

-- a plan in which no two banks clash, whatever their ranks
module _ (G : Graph) (bare : Bare G) where
  abbrev n : ℕ
  n = G.banks

  no_neighbours : (b : ℕ) → b < n → neighbours G b ≡ []
  unfolding neighbours
  no_neighbours b h = filter_cong (G.clash b) (λ v. false) (upto n) (λ v m. bare b v h (upto_below n v m)) ∙ filter_none (upto n)

  no_degree : (b : ℕ) → b < n → degree G b ≡ 0
  unfolding degree
  no_degree b h = ap length (no_neighbours b h)

  no_earlier : (b : ℕ) → b < n → earlier_neighbours G b ≡ []
  unfolding earlier_neighbours
  no_earlier b h =
      filter_cong (λ v. G.clash b v && earlier G v b) (λ v. false) (upto n) (λ v m. ap (λ (t : Bool). t && earlier G v b) (bare b v h (upto_below n v m)))
      ∙ filter_none (upto n)

  first_wave : (b : ℕ) → b < n → wave G b ≡ 0
  unfolding lowest_free lowest_from
  first_wave b h = wave_equation G b h ∙ ap lowest_free (ap (map (wave G)) (no_earlier b h))

  pub bare_neighbours : neighbour_cells G ≡ replicate (23 * n) 65535
  unfolding neighbour_cells
  bare_neighbours = cells_const (23 * n) _ 65535 (λ i h. ap (λ (l : List ℕ). get_or l (i % 23) 65535) (no_neighbours (i / 23) (omega arith)))

  pub bare_degrees : degree_cells G ≡ replicate n 0
  unfolding degree_cells
  bare_degrees = cells_const n (degree G) 0 (λ i h. no_degree i h)

  pub bare_waves : waves G ≡ replicate n 0
  unfolding waves
  bare_waves = unfold cells in cells_const n (wave G) 0 (λ i h. first_wave i h)

  pub bare_counts : count_cells G ≡ replicate (24 * n) 0
  unfolding count_cells filter
  bare_counts = cells_const (24 * n) _ 0 (λ i h. ap (λ (l : List ℕ). length (filter (λ v. eqb (wave G v) (i % 24)) l)) (no_earlier (i / 24) (omega arith)))

  pub bare_tally : (cap : ℕ) → tally_of cap G ≡ record { banks = n; clashes = 0; waves = min 1 n; cap = cap }
  unfolding tally_of clash_count wave_count
  bare_tally cap =
      let c : foldr (λ (b m : ℕ). degree G b + m) 0 (upto n) / 2 ≡ 0 = omega (arith, sum_none (degree G) (upto n) (λ x m. no_degree x (upto_below n x m))) in
      let w : foldr (λ (b k : ℕ). max (suc (wave G b)) k) 0 (upto n) ≡ min 1 n =
      most_none (wave G) (upto n) (λ x m. first_wave x (upto_below n x m)) ∙ ap (λ (k : ℕ). min 1 k) (length_upto n) in
      λ i. record { banks = n; clashes = c i; waves = w i; cap = cap }

-- n banks of rank 0
module _ (n : ℕ) where
  pub none_clash : Bare (empty n)
  none_clash x y hx hy = refl

  empty_ranks : rank_cells (empty n) ≡ replicate n 0
  unfolding rank_cells
  empty_ranks = cells_const n (λ x. 0) 0 (λ i h. refl)

  empty_plan : (ns ds ws cs rs : List ℕ)
      → plan_in (empty n) (slices_of ns ds ws cs rs)
      ≡ slices_of (replicate (23 * n) 65535 ++ drop (23 * n) ns) (replicate n 0 ++ drop n ds) (replicate n 0 ++ drop n ws) (replicate (24 * n) 0 ++ drop (24 * n) cs)
      (replicate n 0 ++ drop n rs)
  unfolding plan_in
  empty_plan ns ds ws cs rs = λ i. record {
    neighbours = over_const (23 * n) 65535 (neighbour_cells (empty n)) ns (bare_neighbours (empty n) none_clash) i;
    degrees = over_const n 0 (degree_cells (empty n)) ds (bare_degrees (empty n) none_clash) i;
    waves = over_const n 0 (waves (empty n)) ws (bare_waves (empty n) none_clash) i;
    counts = over_const (24 * n) 0 (count_cells (empty n)) cs (bare_counts (empty n) none_clash) i;
    ranks = over_const n 0 (rank_cells (empty n)) rs empty_ranks i;
  }

-- refused
module _ (n : ℕ) (s : Slices) (t : Tally) where
  opened_by-law : (c : ℕ) → open_number n s ≡ c → opened_by c n s t ≡ opened n s t
  unfolding opened
  opened_by-law c e = ap (λ (k : ℕ). opened_by k n s t) (sym e)

  pub opened_many : 1024 < n → open_result 1 s t ≡ opened n s t
  unfolding opened_by
  opened_many h = opened_by-law 1 (open_many n s h)

  pub opened_short : n ≤ 1024 → long_enough n s ≡ false → open_result 2 s t ≡ opened n s t
  unfolding opened_by
  opened_short h e = opened_by-law 2 (open_short n s h e)

  pub opened_fine : n ≤ 1024 → long_enough n s ≡ true → open_result 0 (plan_in (empty n) s) (tally_of 24 (empty n)) ≡ opened n s t
  unfolding opened_by
  opened_fine h e = opened_by-law 0 (open_fine n s h e)

-- accepted: what the five fills leave
pub opened_filled : (n m : ℕ) (ns ds ws cs rs : List ℕ) (t : Tally) → m ≡ n → n ≤ 1024 → long_enough n (slices_of ns ds ws cs rs) ≡ true
    → {ns' ds' ws' cs' rs' : List ℕ} {w : ℕ}
    → ns' ≡ replicate (m * 23) 65535 ++ drop (m * 23) ns → ds' ≡ replicate m 0 ++ drop m ds → ws' ≡ replicate m 0 ++ drop m ws
    → cs' ≡ replicate (m * 24) 0 ++ drop (m * 24) cs → rs' ≡ replicate m 0 ++ drop m rs → w ≡ min 1 n
    → open_result 0 (slices_of ns' ds' ws' cs' rs') (record { banks = n; clashes = 0; waves = w; cap = 24 }) ≡ opened n (slices_of ns ds ws cs rs) t
opened_filled n m ns ds ws cs rs t same few long p q r u z v =
    let k : m * 23 ≡ 23 * n = omega arith in
    let j : m * 24 ≡ 24 * n = omega arith in
    let e₁ = p ∙ ap (λ (x : ℕ). replicate x 65535 ++ drop x ns) k in
    let e₂ = q ∙ ap (λ (x : ℕ). replicate x 0 ++ drop x ds) same in
    let e₃ = r ∙ ap (λ (x : ℕ). replicate x 0 ++ drop x ws) same in
    let e₄ = u ∙ ap (λ (x : ℕ). replicate x 0 ++ drop x cs) j in
    let e₅ = z ∙ ap (λ (x : ℕ). replicate x 0 ++ drop x rs) same in
    ap₂ (open_result 0) ((λ i. slices_of (e₁ i) (e₂ i) (e₃ i) (e₄ i) (e₅ i)) ∙ sym (empty_plan n ns ds ws cs rs))
    ((λ i. record { banks = n; clashes = 0; waves = v i; cap = 24 }) ∙ sym (bare_tally (empty n) (none_clash n) 24))
    ∙ opened_fine n (slices_of ns ds ws cs rs) t few long

opened_plan_by : (c n : ℕ) (s : Slices) (t : Tally) → open_number n s ≡ c → {s' : Slices} {t' : Tally} → open_result 0 s' t' ≡ opened_by c n s t → PlanOf (empty n) s' t'
unfolding opened_by
opened_plan_by zero n s t e {s'} {t'} q =
    let r = open_passed n s e in
    let p : s' ≡ plan_in (empty n) s = ap (λ (x : OpenResult). x.slices) q in
    let u : t' ≡ tally_of 24 (empty n) = ap (λ (x : OpenResult). x.tally) q in
    rw (p, u) (open_plan 24 n s r.0 r.1)
opened_plan_by (suc c) n s t e q = let z : ◌≡◌ {A = ℕ} 0 (suc c) = ap (λ (x : OpenResult). x.number) q in absurd (omega arith)

-- accepted, memory holds the plan of no clash
pub opened_plan : (n : ℕ) (s : Slices) (t : Tally) {s' : Slices} {t' : Tally} → open_result 0 s' t' ≡ opened n s t → PlanOf (empty n) s' t'
unfolding opened
opened_plan n s t q = opened_plan_by (open_number n s) n s t refl q

-- The lines of the waves: on which of them a bank stands, how often, and that no line is without one.
use mathlib.Core.Bool.{Bool, true, false, cond, ◌&&◌}
use mathlib.Core.List.{List, [], ◌∷◌, ◌++◌, map, foldr, map-map}
use mathlib.Core.Logic.{inl, inr}
use mathlib.Core.Path.{◌≡◌, refl, sym, ap, ◌∙◌}
use Prim.Native.Nat.{ℕ, zero, suc, ◌+◌, ◌≤◌, ◌<◌, max}
use native.Mathlib.Nat.{le-max_left, le-max_right, max-eq_left, max-eq_right}
use native.Mathlib.Omega.{arith}
use lib.Dec.{T, ltb, eqb, lt→ltb}
use lib.ListN.{length, get_or, length-map}
use borrow.Author.Tests.{lt-ltb, le-ltb, eq-eqb, ne_eqb}
use Rattle.rule.specs.Lists.{upto, filter, memb, Sorted}
use Rattle.rule.specs.Graph.{Graph, earlier_neighbours}
use Rattle.rule.specs.Wave.{wave, wave_count, banks_by, banks_of}
use Rattle.rule.proofs.Booleans.{both, t_along, lt_or_ge, eq→eqb}
use Rattle.rule.proofs.Lists.{in_head, in_tail, in_cons, in_none, in_upto, upto_below, length_upto, filter_cong, filter_true}
use Rattle.rule.proofs.Waves.{earlier_neighbours_in}
use Rattle.rule.proofs.Theorems.{wave_equation, lowest_free_smaller}
use Rattle.rule.proofs.Sorting.{sorted_filter, sorted_upto, memb_upto, memb_filter}
use Rattle.memory.proofs.Fronts.{get_d_upto}
use Rattle.text.specs.Text.{joined}
use Rattle.text.proofs.Joined.{texts_next}
use Rattle.wave_lines.specs.Lines.{Line, line_of, lines_of, banks_shown, times}

-- the sum of m over the list
unfoldable pub total : (ℕ → ℕ) → List ℕ → ℕ
total m [] = 0
total m (x ∷ xs) = m x + total m xs

pub total_append : (m : ℕ → ℕ) (xs ys : List ℕ) → total m (xs ++ ys) ≡ total m xs + total m ys
unfolding total
total_append m [] ys = omega arith
total_append m (x ∷ xs) ys = omega (arith, total_append m xs ys)

total_ones : (xs : List ℕ) → length xs ≡ total (λ x. 1) xs
unfolding total
total_ones [] = refl
total_ones (x ∷ xs) = omega (arith, total_ones xs)

-- by waves w: those below k and those of k are those below k + 1
module _ (m w : ℕ → ℕ) (k : ℕ) where
  one_more : (xs : List ℕ)
      → total m (filter (λ b. ltb (w b) k) xs) + total m (filter (λ b. eqb (w b) k) xs) ≡ total m (filter (λ b. ltb (w b) (suc k)) xs)
  unfolding total filter
  one_more [] = refl
  one_more (x ∷ xs) =
      elim (lt_or_ge (w x) k) [
        | inl l ↦
            let n : w x ≡ k → ⊥ = λ e. omega arith in
            rw (lt-ltb (w x) k l, ne_eqb (w x) k n, lt-ltb (w x) (suc k) (omega arith)) (omega (arith, one_more xs))
        | inr g ↦ elim (lt_or_ge k (w x)) [
          | inl l ↦
              let n : w x ≡ k → ⊥ = λ e. omega arith in
              rw (le-ltb (w x) k g, ne_eqb (w x) k n, le-ltb (w x) (suc k) (omega arith)) (one_more xs)
          | inr h ↦ rw (le-ltb (w x) k g, eq-eqb (w x) k (omega arith), lt-ltb (w x) (suc k) (omega arith)) (omega (arith, one_more xs))
        ]
      ]

-- none are below 0
none_below : (w : ℕ → ℕ) (xs : List ℕ) → filter (λ b. ltb (w b) 0) xs ≡ []
unfolding filter
none_below w [] = refl
none_below w (x ∷ xs) = rw (le-ltb (w x) 0 (omega arith)) (none_below w xs)

-- so those of waves 0 .. k - 1, one wave after the other, are those below k
by_wave : (m w : ℕ → ℕ) (xs : List ℕ) (k : ℕ)
    → total m (joined (map (λ c. filter (λ b. eqb (w b) c) xs) (upto k))) ≡ total m (filter (λ b. ltb (w b) k) xs)
by_wave m w xs zero = unfold upto joined total in rw (none_below w xs)
by_wave m w xs (suc k) =
    let wave : ℕ → List ℕ = λ c. filter (λ b. eqb (w b) c) xs in
    ap (total m) (texts_next wave k)
    ∙ total_append m (joined (map wave (upto k))) (wave k)
    ∙ ap (λ (n : ℕ). n + total m (wave k)) (by_wave m w xs k)
    ∙ one_more m w k xs

-- x counts for 1
one : ℕ → ℕ → ℕ
one x y = cond (eqb x y) 1 0

times_is : (x : ℕ) (xs : List ℕ) → times x xs ≡ total (one x) xs
unfolding times one total filter
times_is x [] = refl
times_is x (y ∷ ys) = go (eqb x y) (times_is x ys)
  where
    go : (t : Bool) → length (filter (eqb x) ys) ≡ total (one x) ys
        → length (cond t (y ∷ filter (eqb x) ys) (filter (eqb x) ys)) ≡ cond t 1 0 + total (one x) ys
    go true e = omega arith
    go false e = omega arith

-- each number below n once
upto_once : (x n : ℕ) → total (one x) (upto n) ≡ cond (ltb x n) 1 0
unfolding upto total one
upto_once x zero = rw (le-ltb x 0 (omega arith))
upto_once x (suc n) =
    total_append (one x) (upto n) (n ∷ [])
    ∙ elim (lt_or_ge x n) [
      | inl l ↦
          let e : x ≡ n → ⊥ = λ e. omega arith in
          rw (upto_once x n, ne_eqb x n e, lt-ltb x n l, lt-ltb x (suc n) (omega arith))
      | inr g ↦ elim (lt_or_ge n x) [
        | inl l ↦
            let e : x ≡ n → ⊥ = λ e. omega arith in
            rw (upto_once x n, ne_eqb x n e, le-ltb x n g, le-ltb x (suc n) (omega arith))
        | inr h ↦ rw (upto_once x n, eq-eqb x n (omega arith), le-ltb x n g, lt-ltb x (suc n) (omega arith))
      ]
    ]

-- the highest wave plus 1
most : (w : ℕ → ℕ) → List ℕ → ℕ
most w xs = foldr (λ b k. max (suc (w b)) k) 0 xs

most_above : (w : ℕ → ℕ) (xs : List ℕ) (b : ℕ) → T (memb b xs) → w b < most w xs
unfolding most
most_above w [] b m = absurd (in_none b m)
most_above w (x ∷ xs) b m =
    let k : ℕ = foldr (λ b k. max (suc (w b)) k) 0 xs in
    elim (in_cons b x xs m) [
      | inl e ↦ omega (arith, le-max_left (suc (w x)) k, ap w e)
      | inr t ↦ omega (arith, le-max_right (suc (w x)) k, most_above w xs b t)
    ]

-- some element has the highest wave
most_held : (w : ℕ → ℕ) (xs : List ℕ) (c : ℕ) → c < most w xs → (b : ℕ) × T (memb b xs) × (c ≤ w b)
unfolding most
most_held w [] c h = absurd (omega arith)
most_held w (x ∷ xs) c h =
    let k : ℕ = foldr (λ b k. max (suc (w b)) k) 0 xs in
    elim (lt_or_ge (w x) k) [
      | inl l ↦
          let r = most_held w xs c (omega (arith, max-eq_right l)) in
          (r.0, in_tail r.0 x xs r.1, r.2)
      | inr g ↦
          let e : k ≤ suc (w x) = omega arith in
          (x, in_head x x xs refl, omega (arith, max-eq_left e))
    ]

in_map : (f : ℕ → ℕ) (xs : List ℕ) (y : ℕ) → T (memb y (map f xs)) → (x : ℕ) × T (memb x xs) × (y ≡ f x)
in_map f [] y m = absurd (in_none y m)
in_map f (x ∷ xs) y m =
    elim (in_cons y (f x) (map f xs) m) [
      | inl e ↦ (x, in_head x x xs refl, e)
      | inr t ↦ let r = in_map f xs y t in (r.0, in_tail r.0 x xs r.1, r.2)
    ]

get_d_map : {A : Type 0} (f : ℕ → A) (none : A) (xs : List ℕ) (i : ℕ) → i < length xs → get_or (map f xs) i none ≡ f (get_or xs i 0)
get_d_map f none [] i h = absurd (omega arith)
get_d_map f none (x ∷ xs) zero h = refl
get_d_map f none (x ∷ xs) (suc i) h = get_d_map f none xs i (omega arith)

-- wave by wave, all of n banks in k waves w
module _ (w : ℕ → ℕ) (n k : ℕ) (below : (b : ℕ) → b < n → w b < k) where
  pub total_by : (m : ℕ → ℕ) → total m (joined (map (banks_by w n) (upto k))) ≡ total m (upto n)
  unfolding banks_by
  total_by m =
      let all : filter (λ b. ltb (w b) k) (upto n) ≡ filter (λ b. true) (upto n) =
      filter_cong (λ b. ltb (w b) k) (λ b. true) (upto n) (λ b t. lt-ltb (w b) k (below b (upto_below n b t))) in
      by_wave m w (upto n) k ∙ ap (total m) (all ∙ filter_true (upto n))

  pub once_by : (b : ℕ) → times b (joined (map (banks_by w n) (upto k))) ≡ cond (ltb b n) 1 0
  once_by b = times_is b (joined (map (banks_by w n) (upto k))) ∙ total_by (one b) ∙ upto_once b n

module _ (G : Graph) where
  pub wave_below : (b : ℕ) → b < G.banks → wave G b < wave_count G
  unfolding wave_count most
  wave_below b h = most_above (wave G) (upto G.banks) b (in_upto G.banks b h)

  pub shown_total : (m : ℕ → ℕ) → total m (joined (map (banks_of G) (upto (wave_count G)))) ≡ total m (upto G.banks)
  shown_total = total_by (wave G) G.banks (wave_count G) wave_below

  shown_is : banks_shown G ≡ joined (map (banks_of G) (upto (wave_count G)))
  unfolding banks_shown lines_of
  shown_is = ap joined (map-map (λ (l : Line). l.banks) (line_of G) (upto (wave_count G)))

  -- as many banks as the plan has
  pub shown_count : length (banks_shown G) ≡ G.banks
  shown_count =
      total_ones (banks_shown G) ∙ ap (total (λ b. 1)) shown_is ∙ shown_total (λ b. 1) ∙ sym (total_ones (upto G.banks)) ∙ length_upto G.banks

  pub bank_once : (b : ℕ) → times b (banks_shown G) ≡ cond (ltb b G.banks) 1 0
  bank_once b = ap (times b) shown_is ∙ once_by (wave G) G.banks (wave_count G) wave_below b

  pub on_line : (b c : ℕ) → memb b (banks_of G c) ≡ (ltb b G.banks && eqb (wave G b) c)
  unfolding banks_by
  on_line b c = memb_filter (λ b. eqb (wave G b) c) (upto G.banks) b ∙ ap (λ (t : Bool). t && eqb (wave G b) c) (memb_upto G.banks b)

  pub line_ascends : (c : ℕ) → Sorted ltb (banks_of G c)
  unfolding banks_by
  line_ascends c = sorted_filter ltb (λ b. eqb (wave G b) c) (upto G.banks) (sorted_upto G.banks)

  pub count_lines-law : length (lines_of G) ≡ wave_count G
  unfolding lines_of
  count_lines-law = length-map (upto (wave_count G)) (line_of G) ∙ length_upto (wave_count G)

  pub line_at : (c : ℕ) (none : Line) → c < wave_count G → get_or (lines_of G) c none ≡ line_of G c
  unfolding lines_of
  line_at c none h = get_d_map (line_of G) none (upto (wave_count G)) c (omega (arith, length_upto (wave_count G))) ∙ ap (line_of G) (get_d_upto (wave_count G) c h)

  -- some bank has wave c: the highest wave is held, and who holds a higher one clashes with a holder of c
  no_gap : (c : ℕ) → c < wave_count G → (b : ℕ) × (b < G.banks) × (wave G b ≡ c)
  unfolding wave_count most
  no_gap c h =
      let r = most_held (wave G) (upto G.banks) c h in
      let b : ℕ = r.0 in
      let l : b < G.banks = upto_below G.banks b r.1 in
      elim (lt_or_ge c (wave G b)) [
        | inl below ↦
            let held : T (memb c (map (wave G) (earlier_neighbours G b))) =
            lowest_free_smaller (map (wave G) (earlier_neighbours G b)) c (omega (arith, wave_equation G b l)) in
            let v = in_map (wave G) (earlier_neighbours G b) c held in
            (v.0, (earlier_neighbours_in G b v.0 v.1).0, sym v.2)
        | inr g ↦ (b, l, omega (arith, r.2))
      ]

  pub no_empty_line : (c : ℕ) → c < wave_count G → (b : ℕ) × T (memb b (banks_of G c))
  no_empty_line c h =
      let r = no_gap c h in
      let b = r.0 in
      (b, t_along (sym (on_line b c)) (both (ltb b G.banks) (eqb (wave G b) c) (lt→ltb b G.banks r.1) (eq→eqb (wave G b) c r.2)))

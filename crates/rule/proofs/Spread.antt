-- What one edit does to the waves, and where it stops.
use mathlib.Core.Bool.{Bool, true, false, cond, ◌&&◌, ◌||◌, not, beq}
use mathlib.Core.List.{map}
use mathlib.Core.Logic.{◌⊎◌, inl, inr, ◌≢◌}
use mathlib.Core.Path.{◌≡◌, refl, sym, ap, ◌∙◌}
use Prim.Native.Nat.{ℕ, ◌<◌}
use lib.Dec.{T, eqb, eqb→eq, T_not}
use lib.ListN.{length}
use Rattle.rule.specs.Lists.{upto, filter}
use Rattle.rule.specs.Graph.{Graph, neighbours, degree, earlier, earlier_neighbours}
use Rattle.rule.specs.Wave.{lowest_free, wave}
use Rattle.rule.specs.Reach.{changed, is_named, is_reached}
use Rattle.rule.specs.WorkList.{OneEdit, turned, seed, is_taken, WorkList, Next}
use Rattle.rule.proofs.Booleans.{and_l, and_r, both, or_l, or_r, or_cases, passes?, test_ext, t_along, same_test, stable, eq→eqb}
use Rattle.rule.proofs.Lists.{in_upto, upto_below, filter_cong, map_cong, some_in, in_some}
use Rattle.rule.proofs.Order.{earlier_trans, earlier_same, earlier_flip}
use Rattle.rule.proofs.Pairs.{pair_is}
use Rattle.rule.proofs.Waves.{earlier_induction, earlier_neighbours_in, wave_equation}

and_cong : (s t u w : Bool) → s ≡ t → (T t → u ≡ w) → (s && u) ≡ (t && w)
and_cong s true u w e h = let k = h tt in cc
and_cong s false u w e h = cc

stands : (d : Bool) (x y : ℕ) → ((T d → ⊥) → x ≡ y) → cond d y x ≡ y
stands true x y h = refl
stands false x y h = h (λ t. t)

module _ (old new : Graph) (a b : ℕ) (edit : OneEdit old new a b) where
  pub degree_elsewhere : (x : ℕ) → x < new.banks → x ≢ a → x ≢ b → degree old x ≡ degree new x
  unfolding degree neighbours
  degree_elsewhere x h na nb =
      ap length (ap (λ (n : ℕ). filter (old.clash x) (upto n)) edit.same_banks
      ∙ filter_cong (old.clash x) (new.clash x) (upto new.banks) (λ v m.
      edit.elsewhere x v h (upto_below new.banks v m) (λ t. elim (pair_is a b x v t) [ inl e ↦ na e.0 | inr e ↦ nb e.0 ])))

  -- the order towards y has not turned
  not_turned : (y x : ℕ) → y < new.banks → x < new.banks → x ≢ y → (T (turned old new y x) → ⊥) → T (new.clash x y) → earlier old y x ≡ earlier new y x
  unfolding turned
  not_turned y x hy hx n nt c =
      let kept : earlier old x y ≡ earlier new x y =
      same_test (earlier old x y) (earlier new x y) (stable (beq (earlier old x y) (earlier new x y)) (λ t. nt (both (new.clash y x) _ (t_along (edit.symmetric x y hx hy) c) t))) in
      earlier_flip old y x (λ e. n (sym e)) ∙ ap not kept ∙ sym (earlier_flip new y x (λ e. n (sym e)))

  seed_cases : (x : ℕ) → (T (seed old new a b x) → ⊥) → (x ≢ a) × (x ≢ b) × (T (turned old new a x) → ⊥) × (T (turned old new b x) → ⊥)
  unfolding seed is_named
  seed_cases x n =
      (λ e. let t = eq→eqb x a e in n (search (or_l, or_r)), λ e. let t = eq→eqb x b e in n (search (or_l, or_r)), λ t. n (search (or_l, or_r)), λ t. n (search (or_l, or_r)))

  -- a bank that is no seed has the earlier neighbours that it had
  pub same_earlier : (x v : ℕ) → x < new.banks → v < new.banks → (T (seed old new a b x) → ⊥)
      → (old.clash x v && earlier old v x) ≡ (new.clash x v && earlier new v x)
  same_earlier x v hx hv n =
      let s = seed_cases x n in
      and_cong (old.clash x v) (new.clash x v) (earlier old v x) (earlier new v x)
      (edit.elsewhere x v hx hv (λ t. elim (pair_is a b x v t) [ inl e ↦ s.0 e.0 | inr e ↦ s.1 e.0 ]))
      (λ c. elim (passes? (eqb v a)) [
        | inl t ↦ let e = eqb→eq v a t in rw e (not_turned a x (rw e at hv) hx s.0 s.2 (rw e at c))
        | inr na ↦ elim (passes? (eqb v b)) [
          | inl t ↦ let e = eqb→eq v b t in rw e (not_turned b x (rw e at hv) hx s.1 s.3 (rw e at c))
          | inr nb ↦ earlier_same old new v x (degree_elsewhere v hv (λ e. na (eq→eqb v a e)) (λ e. nb (eq→eqb v b e))) (degree_elsewhere x hx s.0 s.1)
              (edit.same_ranks v hv) (edit.same_ranks x hx)
        ]
      ])

  pub same_neighbours : (x : ℕ) → x < new.banks → (T (seed old new a b x) → ⊥) → earlier_neighbours old x ≡ earlier_neighbours new x
  unfolding earlier_neighbours
  same_neighbours x h n =
      ap (λ (k : ℕ). filter (λ v. old.clash x v && earlier old v x) (upto k)) edit.same_banks
      ∙ filter_cong (λ v. old.clash x v && earlier old v x) (λ v. new.clash x v && earlier new v x) (upto new.banks) (λ v m.
      same_earlier x v h (upto_below new.banks v m) n)

  -- so it keeps its wave, if they keep theirs
  pub wave_kept : (x : ℕ) → x < new.banks → (T (seed old new a b x) → ⊥)
      → ((v : ℕ) → v < new.banks → T (new.clash x v && earlier new v x) → wave old v ≡ wave new v)
      → wave old x ≡ wave new x
  wave_kept x h n kept =
      wave_equation old x (rw edit.same_banks h)
      ∙ ap lowest_free (ap (map (wave old)) (same_neighbours x h n) ∙ map_cong (wave old) (wave new) (earlier_neighbours new x) (λ v m.
      let r = earlier_neighbours_in new x v m in kept v r.0 r.1))
      ∙ sym (wave_equation new x h)

  pub unchanged : (x : ℕ) → (T (changed old new x) → ⊥) → wave old x ≡ wave new x
  unfolding changed
  unchanged x n = eqb→eq (wave old x) (wave new x) (stable (eqb (wave old x) (wave new x)) n)

  changed_not : (x : ℕ) → wave old x ≡ wave new x → T (changed old new x) → ⊥
  unfolding changed
  changed_not x e c = T_not (eqb (wave old x) (wave new x)) c (eq→eqb (wave old x) (wave new x) e)

  -- x and v the other way round
  turn : (x v : ℕ) → x < new.banks → v < new.banks → T (new.clash x v && earlier new v x) → T (new.clash v x && earlier new v x)
  turn x v hx hv t = rw (edit.symmetric v x hv hx) t

  pub taken_seed : (x : ℕ) → T (seed old new a b x) → T (is_taken old new a b x)
  unfolding is_taken
  taken_seed x s = or_l (seed old new a b x) _ s

  pub taken_spread : (v x : ℕ) → v < new.banks → T (new.clash v x && earlier new v x) → T (changed old new v) → T (is_taken old new a b x)
  unfolding is_taken is_reached
  taken_spread v x h t c =
      or_r (seed old new a b x) _
      (some_in (λ u. new.clash u x && earlier new u x && changed old new u) (upto new.banks) v (in_upto new.banks v h)
      (both (new.clash v x && earlier new v x) (changed old new v) t c))

  pub taken_cases : (x : ℕ) → T (is_taken old new a b x)
      → T (seed old new a b x) ⊎ ((v : ℕ) × (v < new.banks) × T (new.clash v x && earlier new v x) × T (changed old new v))
  unfolding is_taken is_reached
  taken_cases x t =
      elim (or_cases (seed old new a b x) _ t) [
        | inl s ↦ inl s
        | inr u ↦
            let r = in_some (λ v. new.clash v x && earlier new v x && changed old new v) (upto new.banks) u in
            let w = r.0 in
            inr (w, upto_below new.banks w r.1, and_l (new.clash w x && earlier new w x) (changed old new w) r.2, and_r (new.clash w x && earlier new w x) (changed old new w) r.2)
      ]

  -- every changed bank is on the trail
  pub not_taken : (x : ℕ) → x < new.banks → (T (is_taken old new a b x) → ⊥) → wave old x ≡ wave new x
  not_taken x h n =
      wave_kept x h (λ s. n (taken_seed x s)) (λ v hv t. unchanged v (λ c. n (taken_spread v x hv (turn x v h hv t) c)))

  module _ (done queued : ℕ → Bool) (list : WorkList old new a b done queued) where
    settled : (Here : ℕ → Type 0) → ((v x : ℕ) → T (earlier new v x) → Here x → Here v)
        → ((x : ℕ) → x < new.banks → Here x → T (queued x) → ⊥)
        → (x : ℕ) → x < new.banks → Here x → (T (done x) → ⊥) → wave old x ≡ wave new x
    settled Here down none = earlier_induction new (λ x. Here x → (T (done x) → ⊥) → wave old x ≡ wave new x) (λ x h before here nd.
        let neither : T (done x || queued x) → ⊥ = λ t. elim (or_cases (done x) (queued x) t) [ inl d ↦ nd d | inr q ↦ none x h here q ] in
        wave_kept x h (λ s. neither (list.seeds x h s)) (λ v hv t.
        let e = and_r (new.clash x v) (earlier new v x) t in
        elim (passes? (done v)) [
          | inl d ↦ unchanged v (λ c. neither (list.spreads v x hv h d c (turn x v h hv t)))
          | inr n ↦ before v hv e (down v x e here) n
        ]))

    -- what is earlier than the next bank, and has not picked anew, keeps its wave
    pub settled_before : (h : ℕ) → Next new queued h → (x : ℕ) → x < new.banks → T (earlier new x h) → (T (done x) → ⊥) → wave old x ≡ wave new x
    settled_before h next = settled (λ x. T (earlier new x h)) (λ v x t here. earlier_trans new v x h t here) (λ x l here q. next.first x l q here)

    -- so the next bank picks its new wave from the waves as they stand
    pub next_wave : (h : ℕ) → Next new queued h → lowest_free (map (λ v. cond (done v) (wave new v) (wave old v)) (earlier_neighbours new h)) ≡ wave new h
    next_wave h next =
        ap lowest_free (map_cong _ (wave new) (earlier_neighbours new h) (λ v m.
        let r = earlier_neighbours_in new h v m in
        stands (done v) (wave old v) (wave new v) (settled_before h next v r.0 (and_r (new.clash h v) (earlier new v h) r.1))))
        ∙ sym (wave_equation new h next.bank)

    -- when nothing waits, every bank that has not picked anew keeps its wave
    pub settled_end : ((x : ℕ) → x < new.banks → T (queued x) → ⊥) → (x : ℕ) → x < new.banks → (T (done x) → ⊥) → wave old x ≡ wave new x
    settled_end none x h = settled (λ y. Unit {0}) (λ v y t here. tt) (λ y l here q. none y l q) x h tt

    -- and those that have are the trail
    pub done_is_taken : ((x : ℕ) → x < new.banks → T (queued x) → ⊥) → (x : ℕ) → x < new.banks → done x ≡ is_taken old new a b x
    done_is_taken none x h =
        test_ext (done x) (is_taken old new a b x) (λ d. list.only_taken x h (or_l (done x) (queued x) d)) (λ t.
        let is : T (done x || queued x) → T (done x) = λ o. elim (or_cases (done x) (queued x) o) [ inl d ↦ d | inr q ↦ absurd (none x h q) ] in
        elim (taken_cases x t) [
          | inl s ↦ is (list.seeds x h s)
          | inr r ↦ elim (passes? (done r.0)) [
            | inl d ↦ is (list.spreads r.0 x r.1 h d r.3 r.2)
            | inr n ↦ absurd (changed_not r.0 (settled_end none r.0 r.1 n) r.3)
          ]
        ])

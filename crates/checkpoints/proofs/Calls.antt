-- What the calls leave, from what their steps leave.
use mathlib.Core.List.{List, [], ◌∷◌, ◌++◌}
use mathlib.Core.Path.{◌≡◌, refl, ap, ◌∙◌}
use Prim.Native.Nat.{ℕ, zero, suc, ◌+◌, ◌*◌, ◌-◌, ◌≤◌}
use native.Mathlib.Omega.{arith}
use lib.ListN.{length, set, take, drop, length-set, length-append}
use lib.Seq.{length-take-le}
use Rattle.memory.specs.declared.Tally.{Tally}
use Rattle.memory.specs.Cells.{over}
use Rattle.memory.specs.Plan.{Slices, slices_of}
use Rattle.memory.specs.inner.View.{Long}
use Rattle.text.specs.Places.{put, Puts}
use Rattle.text.proofs.Putting.{puts_one}
use Rattle.shelf.specs.Names.{place_of}
use Rattle.shelf.specs.Shelf.{degrees_at, waves_at, counts_at, tally_at, ranks_at, place_size, part, place, slices_in, tally_in, place_cells}
use Rattle.checkpoints.specs.Calls.{open_shelf_number, keep_number, back_number, shelf_result, unused_shelf, open_shelf_by, open_shelf}
use Rattle.checkpoints.specs.Calls.{kept_under, keep_by, keep, back_result, over_all, came_back, back_by, come_back}
use Rattle.shelf.specs.inner.Copies.{Copied}
use Rattle.checkpoints.specs.inner.Steps.{Listed}
use Rattle.shelf.proofs.Places.{lent_part}
use Rattle.shelf.proofs.Putting.{copied_puts, puts_long, puts_more}

-- opening a shelf
module _ (n : ℕ) (shelf : List ℕ) where
  pub shelf_refused : (c : ℕ) → c ≡ open_shelf_number n shelf → (c ≡ 0 → ⊥) → shelf_result c shelf ≡ open_shelf n shelf
  unfolding open_shelf open_shelf_by
  shelf_refused zero e d = absurd (d refl)
  shelf_refused (suc c) e d = rw (← e) refl

  pub shelf_opened : (noon close : ℕ) → 0 ≡ open_shelf_number n shelf → 3 * place_size n ≤ length shelf → noon ≡ place_size n → close ≡ 2 * place_size n
      → shelf_result 0 (set (set (set shelf 0 0) noon 0) close 0) ≡ open_shelf n shelf
  unfolding open_shelf open_shelf_by unused_shelf
  shelf_opened noon close e room h k =
      let first = (puts_one 0 0 shelf (omega arith)).left in
      let second = (puts_one 0 noon (set shelf 0 0) (omega (arith, length-set shelf 0 0))).left in
      let third = (puts_one 0 close (set (set shelf 0 0) noon 0) (omega (arith, length-set shelf 0 0, length-set (set shelf 0 0) noon 0))).left in
      rw (← e) (ap (shelf_result 0) (third ∙ rw (h, k) (ap (put (0 ∷ []) (2 * place_size n)) (rw h at (second ∙ ap (put (0 ∷ []) noon) first)))))

-- keeping
module _ (name : List ℕ) (s : Slices) (t : Tally) (shelf : List ℕ) where
  pub keep_refused : (c : ℕ) → c ≡ keep_number s t name shelf → (c ≡ 0 → ⊥) → shelf_result c shelf ≡ keep name s t shelf
  unfolding keep keep_by
  keep_refused zero e d = absurd (d refl)
  keep_refused (suc c) e d = rw (← e) refl

  pub keep_done : (at : ℕ) (shelf' : List ℕ) → 0 ≡ keep_number s t name shelf → at ≡ place_of name * place_size t.banks
      → shelf' ≡ put (place_cells s t) at shelf → shelf_result 0 shelf' ≡ keep name s t shelf
  unfolding keep keep_by kept_under
  keep_done at shelf' e h f = rw (← e) (ap (shelf_result 0) (rw h at f))

-- the cells of a place, one part after the other
module _ (s : Slices) (t : Tally) (l : Long t.banks s) where
  abbrev pub n : ℕ
  n = t.banks

  abbrev pub rows : List ℕ
  rows = take (23 * n) s.neighbours

  abbrev pub degrees : List ℕ
  degrees = take n s.degrees

  abbrev pub waves : List ℕ
  waves = take n s.waves

  abbrev pub counts : List ℕ
  counts = take (24 * n) s.counts

  abbrev pub tally : List ℕ
  tally = t.banks ∷ t.clashes ∷ t.waves ∷ []

  abbrev pub ranks : List ℕ
  ranks = take n s.ranks

  abbrev pub cap : List ℕ
  cap = t.cap ∷ []

  -- what is left to put
  abbrev pub from_ranks : List ℕ
  from_ranks = ranks ++ cap

  abbrev pub from_tally : List ℕ
  from_tally = tally ++ from_ranks

  abbrev pub from_counts : List ℕ
  from_counts = counts ++ from_tally

  abbrev pub from_waves : List ℕ
  from_waves = waves ++ from_counts

  abbrev pub from_degrees : List ℕ
  from_degrees = degrees ++ from_waves

  abbrev pub from_rows-law : List ℕ
  from_rows-law = rows ++ from_degrees

  pub length_rows : length rows ≡ 23 * n
  length_rows = length-take-le (23 * n) s.neighbours l.neighbours

  pub length_degrees : length degrees ≡ n
  length_degrees = length-take-le n s.degrees l.degrees

  pub length_waves : length waves ≡ n
  length_waves = length-take-le n s.waves l.waves

  pub length_counts : length counts ≡ 24 * n
  length_counts = length-take-le (24 * n) s.counts l.counts

  pub length_ranks : length ranks ≡ n
  length_ranks = length-take-le n s.ranks l.ranks

  pub length_from_ranks : ranks_at n + length from_ranks ≡ place_size n
  length_from_ranks = omega (arith, length_ranks, length-append ranks cap)

  pub length_from_tally : tally_at n + length from_tally ≡ place_size n
  length_from_tally = omega (arith, length_from_ranks, length-append tally from_ranks)

  pub length_from_counts : counts_at n + length from_counts ≡ place_size n
  length_from_counts = omega (arith, length_counts, length_from_tally, length-append counts from_tally)

  pub length_from_waves : waves_at n + length from_waves ≡ place_size n
  length_from_waves = omega (arith, length_waves, length_from_counts, length-append waves from_counts)

  pub length_from_degrees : degrees_at n + length from_degrees ≡ place_size n
  length_from_degrees = omega (arith, length_degrees, length_from_waves, length-append degrees from_waves)

  pub length_from_rows : 1 + length from_rows-law ≡ place_size n
  length_from_rows = omega (arith, length_rows, length_from_degrees, length-append rows from_degrees)

  pub length_place_cells : length (place_cells s t) ≡ place_size n
  unfolding place_cells
  length_place_cells = omega (arith, length_from_rows, length-append (1 ∷ []) from_rows-law)

  pub plan_put : (at : ℕ) (shelf : List ℕ) → at + place_size n ≤ length shelf → (rs ds cs r₀ r₁ r₂ r₃ r₄ r₅ r₆ r₇ : ℕ) (s₀ s₁ s₂ s₃ s₄ s₅ s₆ s₇ : List ℕ)
      → rs ≡ 23 * n → ds ≡ n → cs ≡ 24 * n
      → Copied (1 ∷ []) 1 at shelf r₀ s₀ → Copied s.neighbours rs r₀ s₀ r₁ s₁ → Copied s.degrees ds r₁ s₁ r₂ s₂
      → Copied s.waves ds r₂ s₂ r₃ s₃ → Copied s.counts cs r₃ s₃ r₄ s₄ → Copied tally 3 r₄ s₄ r₅ s₅ → Copied s.ranks ds r₅ s₅ r₆ s₆
      → Copied cap 1 r₆ s₆ r₇ s₇ → s₇ ≡ put (place_cells s t) at shelf
  unfolding place_cells
  plan_put at shelf room rs ds cs r₀ r₁ r₂ r₃ r₄ r₅ r₆ r₇ s₀ s₁ s₂ s₃ s₄ s₅ s₆ s₇ er ed ec c₀ c₁ c₂ c₃ c₄ c₅ c₆ c₇ =
      let p₀ : Puts (1 ∷ []) at shelf r₀ s₀ = copied_puts (1 ∷ []) 1 at shelf r₀ s₀ (omega arith) c₀ in
      let p₁ : Puts rows r₀ s₀ r₁ s₁ = copied_puts s.neighbours (23 * n) r₀ s₀ r₁ s₁ l.neighbours (rw er at c₁) in
      let p₂ : Puts degrees r₁ s₁ r₂ s₂ = copied_puts s.degrees n r₁ s₁ r₂ s₂ l.degrees (rw ed at c₂) in
      let p₃ : Puts waves r₂ s₂ r₃ s₃ = copied_puts s.waves n r₂ s₂ r₃ s₃ l.waves (rw ed at c₃) in
      let p₄ : Puts counts r₃ s₃ r₄ s₄ = copied_puts s.counts (24 * n) r₃ s₃ r₄ s₄ l.counts (rw ec at c₄) in
      let p₅ : Puts tally r₄ s₄ r₅ s₅ = copied_puts tally 3 r₄ s₄ r₅ s₅ (omega arith) c₅ in
      let p₆ : Puts ranks r₅ s₅ r₆ s₆ = copied_puts s.ranks n r₅ s₅ r₆ s₆ l.ranks (rw ed at c₆) in
      let p₇ : Puts cap r₆ s₆ r₇ s₇ = copied_puts cap 1 r₆ s₆ r₇ s₇ (omega arith) c₇ in
      let e₀ : length s₀ ≡ length shelf = puts_long (1 ∷ []) at shelf r₀ s₀ p₀ (omega arith) in
      let n₀ : r₀ ≡ at + 1 = c₀.next in
      let e₁ : length s₁ ≡ length shelf = puts_long rows r₀ s₀ r₁ s₁ p₁ (omega (arith, length_rows)) ∙ e₀ in
      let n₁ : r₁ ≡ at + degrees_at n = omega (arith, c₁.next) in
      let e₂ : length s₂ ≡ length shelf = puts_long degrees r₁ s₁ r₂ s₂ p₂ (omega (arith, length_degrees)) ∙ e₁ in
      let n₂ : r₂ ≡ at + waves_at n = omega (arith, c₂.next) in
      let e₃ : length s₃ ≡ length shelf = puts_long waves r₂ s₂ r₃ s₃ p₃ (omega (arith, length_waves)) ∙ e₂ in
      let n₃ : r₃ ≡ at + counts_at n = omega (arith, c₃.next) in
      let e₄ : length s₄ ≡ length shelf = puts_long counts r₃ s₃ r₄ s₄ p₄ (omega (arith, length_counts)) ∙ e₃ in
      let n₄ : r₄ ≡ at + tally_at n = omega (arith, c₄.next) in
      let e₅ : length s₅ ≡ length shelf = puts_long tally r₄ s₄ r₅ s₅ p₅ (omega arith) ∙ e₄ in
      let n₅ : r₅ ≡ at + ranks_at n = omega (arith, c₅.next) in
      let q₆ = puts_more ranks r₅ s₅ r₆ s₆ p₆ cap r₇ s₇ (omega (arith, length_from_ranks)) p₇ in
      let q₅ = puts_more tally r₄ s₄ r₅ s₅ p₅ from_ranks r₇ s₇ (omega (arith, length_from_tally)) q₆ in
      let q₄ = puts_more counts r₃ s₃ r₄ s₄ p₄ from_tally r₇ s₇ (omega (arith, length_from_counts)) q₅ in
      let q₃ = puts_more waves r₂ s₂ r₃ s₃ p₃ from_counts r₇ s₇ (omega (arith, length_from_waves)) q₄ in
      let q₂ = puts_more degrees r₁ s₁ r₂ s₂ p₂ from_waves r₇ s₇ (omega (arith, length_from_degrees)) q₃ in
      let q₁ = puts_more rows r₀ s₀ r₁ s₁ p₁ from_degrees r₇ s₇ (omega (arith, length_from_rows)) q₂ in
      (puts_more (1 ∷ []) at shelf r₀ s₀ p₀ from_rows-law r₇ s₇ (omega (arith, length_from_rows, length-append (1 ∷ []) from_rows-law)) q₁).left

-- coming back
module _ (n : ℕ) (cells : List ℕ) (s : Slices) where
  pub brought : (rows parts d w c k : ℕ) (ns ds ws cs ks : List ℕ)
      → rows ≡ 23 * n → parts ≡ 24 * n → d ≡ degrees_at n → w ≡ waves_at n → c ≡ counts_at n → k ≡ ranks_at n
      → ns ≡ over (part 1 rows cells) s.neighbours → ds ≡ over (part d n cells) s.degrees
      → ws ≡ over (part w n cells) s.waves → cs ≡ over (part c parts cells) s.counts → ks ≡ over (part k n cells) s.ranks
      → slices_of ns ds ws cs ks ≡ over_all (slices_in n cells) s
  unfolding over_all slices_in
  brought rows parts d w c k ns ds ws cs ks er ep ed ew ec ek hn hd hw hc hk = rw (hn, hd, hw, hc, hk, er, ep, ed, ew, ec, ek) refl

  -- the waves as they are lent
  pub lent_waves : (m w c : ℕ) → m ≡ n → w ≡ 1 + m * 24 → c ≡ w + m → take (c - w) (drop w cells) ≡ part (waves_at n) n cells
  lent_waves m w c e h k = let at : w ≡ waves_at n = omega arith in lent_part w c n cells (omega arith) ∙ rw at refl

module _ (n : ℕ) (cells : List ℕ) (s : Slices) (moved : List ℕ) where
  pub came : (r : ℕ) (s' : Slices) (t : Tally) (moved' : List ℕ) → Listed n s.waves (part (waves_at n) n cells) moved r moved'
      → s' ≡ over_all (slices_in n cells) s → t ≡ tally_in n cells → back_result 0 r s' t moved' ≡ came_back n cells s moved
  unfolding came_back slices_in
  came r s' t moved' l e f = rw (l.count, l.cells, e, f) refl

module _ (name : List ℕ) (s : Slices) (t : Tally) (moved shelf : List ℕ) where
  pub back_refused : (c : ℕ) → c ≡ back_number s t moved name shelf → (c ≡ 0 → ⊥) → back_result c 0 s t moved ≡ come_back name s t moved shelf
  unfolding come_back back_by
  back_refused zero e d = absurd (d refl)
  back_refused (suc c) e d = rw (← e) refl

  pub back_done-law : 0 ≡ back_number s t moved name shelf → came_back t.banks (place t.banks (place_of name) shelf) s moved ≡ come_back name s t moved shelf
  unfolding come_back back_by
  back_done-law e = rw (← e) refl
